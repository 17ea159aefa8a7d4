-- The place that `find_block` answers lies within its slice, so the part from there on is the 512 bytes shown, at the slice's pointer and as many bytes on.
use mathlib.Core.Path.{sym}
use native.Mathlib.Omega.{arith}
use Rattle.volume.proofs.Viewing.{place_read, view_within, hands_diff, hands_image, hands_nothing}
use Rattle.volume.proofs.view.read_through.Goals as goal

-- the number, the bytes and the place, as the three clauses
handed : {P Q R : Type 0} → P × (Q × R) → record { told : P; shown : Q; placed : R }
handed e = record { told = e.0; shown = e.1.0; placed = e.1.1 }

pub returns-in-Err : goal.returns-in-Err
returns-in-Err c = handed (hands_nothing _ _ _ _ _ _ _ c.number.ensures (sym c.in-Err.ensures))

pub overflow_add-result : goal.overflow_add-result
overflow_add-result c = let room = view_within _ _ _ (place_read c.find_block.ensures c.in-Ok.is c.in-InDiff.is) in omega arith

pub slice_bounds-result-end-in-InDiff : goal.slice_bounds-result-end-in-InDiff
slice_bounds-result-end-in-InDiff c = let room = view_within _ _ _ (place_read c.find_block.ensures c.in-Ok.is c.in-InDiff.is) in omega arith

pub overflow_add-result-in-InImage : goal.overflow_add-result-in-InImage
overflow_add-result-in-InImage c = let room = view_within _ _ _ (place_read c.find_block.ensures c.in-Ok.is c.in-InImage.is) in omega arith

pub slice_bounds-result-end-in-InImage : goal.slice_bounds-result-end-in-InImage
slice_bounds-result-end-in-InImage c = let room = view_within _ _ _ (place_read c.find_block.ensures c.in-Ok.is c.in-InImage.is) in omega arith

pub returns-in-InDiff : goal.returns-in-InDiff
returns-in-InDiff c = handed (hands_diff _ _ _ _ _ _ (place_read c.find_block.ensures c.in-Ok.is c.in-InDiff.is))

pub returns-in-InImage : goal.returns-in-InImage
returns-in-InImage c = handed (hands_image _ _ _ _ _ _ (place_read c.find_block.ensures c.in-Ok.is c.in-InImage.is))
