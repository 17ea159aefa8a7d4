-- 01, "Records": "An image is 1 to 65,536 whole blocks." Blocks of an image, and an image with some blocks put into it.
use Rattle.std.specs.Prelude.{ℕ, zero, suc, ◌*◌, ◌/◌, ◌%◌, List, [], ◌∷◌, Bool, true, false, not, ◌&&◌, ◌||◌, ltb, eqb, length, get_or, take, drop}
use Rattle.std.proofs.Math.Option.{Option, none, some}
use Rattle.paper.specs.Limits.{block_bytes, max_blocks}
use Rattle.paper.specs.Answer.{Said, answer, guard, BadImage}

-- BadImage: "length zero, not in whole blocks, too long"
unfoldable pub bad_image : List ℕ → Bool
bad_image img = eqb (length img) 0 || not (eqb (length img % block_bytes) 0) || ltb (block_bytes * max_blocks) (length img)

-- an image that passes answers its number of blocks
unfoldable pub check_image : List ℕ → Said ℕ
check_image img = guard (bad_image img) BadImage (answer (length img / block_bytes))

-- block a of an image
unfoldable pub block : List ℕ → ℕ → List ℕ
block img a = take block_bytes (drop (block_bytes * a) img)

-- what a diff means: the content that it gives a block's address, or none
abbrev pub Map : Type 0
Map = ℕ → Option (List ℕ)

-- f 0, f 1, .. f (n − 1)
unfoldable pub each : ℕ → (ℕ → ℕ) → List ℕ
each zero f = []
each (suc n) f = f 0 ∷ each n (λ k. f (suc k))

-- byte k of a block after an apply: the content's where one is given, else the old one
abbrev pub byte_after : Option (List ℕ) → ℕ → ℕ → ℕ
byte_after none k old = old
byte_after (some c) k old = get_or c k 0

-- "Applying gives the diff's block where one is named, else the old one."
unfoldable pub overlay : List ℕ → Map → List ℕ
overlay img f = each (length img) (λ k. byte_after (f (k / block_bytes)) (k % block_bytes) (get_or img k 0))

-- two lists of bytes are the same
unfoldable pub same : List ℕ → List ℕ → Bool
same [] [] = true
same [] (y ∷ ys) = false
same (x ∷ xs) [] = false
same (x ∷ xs) (y ∷ ys) = eqb x y && same xs ys
