-- Where a read-through's block stands, and where its view points.
use Rattle.std.specs.Prelude.{ℕ, ◌+◌, Result}
use Rattle.paper.specs.Answer.{Said, answer, refuse}
use Rattle.paper.specs.Volume.{View, in_diff, in_image}
use Rattle.record.specs.declared.refusal.Refusal.{Refusal}
use Rattle.record.specs.Refusals.{said}
use Rattle.volume.specs.declared.view.Place.{Place}
use Rattle.volume.specs.declared.view.Place.TheVariants.{InDiff, InImage}

abbrev pub view : Place → View
view (InDiff k) = in_diff k
view (InImage k) = in_image k

abbrev pub said_place : Result Place Refusal → Said View
said_place = said view

-- the view's pointer, from those of the diff and of the image: a refusal's empty view is at the diff's start
abbrev pub place_of : ℕ × ℕ → ℕ × ℕ → Said View → ℕ × ℕ
place_of d img (answer (in_diff k)) = (d.0, d.1 + k)
place_of d img (answer (in_image k)) = (img.0, img.1 + k)
place_of d img (refuse k) = (d.0, d.1 + 0)
