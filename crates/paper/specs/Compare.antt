-- 01, "Moves of a volume": a comparison of two images.
use Rattle.std.specs.Prelude.{ℕ, List, cond, not, ◌||◌, eqb, length}
use Rattle.std.proofs.Math.Option.{none, some}
use Rattle.paper.specs.Answer.{Said, guard, Wrote, output, BadImage, BadHead}
use Rattle.paper.specs.Image.{Map, bad_image, block, same}
use Rattle.paper.specs.Diff.{compared_head, bad_head, written}

-- "the blocks where H(p) and H(q) differ, with the content in H(q)": "by content alone"
unfoldable pub differing : List ℕ → List ℕ → Map
differing old new a = cond (same (block old a) (block new a)) none (some (block new a))

-- "A comparison checks 8, then 3 for its gids, then 17." BadImage: "or two images of unequal length".
unfoldable pub compare : List ℕ → List ℕ → ℕ → ℕ → ℕ → Said (Wrote ℕ)
compare old new p q room =
    guard (bad_image old || bad_image new || not (eqb (length old) (length new))) BadImage
    (guard (bad_head (compared_head p q)) BadHead
    (output (written (compared_head p q) (differing old new)) room))
