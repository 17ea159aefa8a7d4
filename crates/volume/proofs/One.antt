-- One outcome: what each call of this crate promises is met by one answer, and by one image where it writes.
-- Each map from the code's answers to those of `paper` is injective, so two answers that say the same are the same.
use Prim.Native.Nat.{ℕ}
use mathlib.Core.Path.{◌≡◌, sym, ap, ◌∙◌}
use mathlib.Core.List.{List}
use denote.Ref.{Bor}
use Rattle.paper.specs.Answer.{answer, comes_back, over, number}
use Rattle.paper.specs.Diff as Diff
use Rattle.paper.specs.State as Paper
use Rattle.paper.specs.Volume.{done_state, decide_on, decide, apply, run, read_through, seen, lag}
use Rattle.std.specs.Prelude.{ℤ, Result, Ok}
use Rattle.record.specs.declared.refusal.Refusal.{Refusal}
use Rattle.record.specs.declared.state.State.{State}
use Rattle.record.specs.States.{state}
use Rattle.record.specs.Refusals.{said}
use Rattle.record.proofs.One.{one_kind, one_state, one_said_by, one_number}
use Rattle.volume.specs.declared.decision.While.{While}
use Rattle.volume.specs.declared.decision.Done.{Done}
use Rattle.volume.specs.declared.view.Place.{Place}
use Rattle.volume.specs.declared.view.Place.TheVariants.{InDiff, InImage}
use Rattle.volume.specs.Decisions.{while, done, further, said_decision, said_applied}
use Rattle.volume.specs.Writes.{said_run}
use Rattle.volume.specs.Views.{view, said_place, place_of}
use Rattle.volume.specs.Lags.{said_lag}

-- ---- two answers that say the same are the same

one_while : (w v : While) → while w ≡ while v → w ≡ v
one_while w v e = λ i. record { kind = one_kind w.kind v.kind (ap (λ s. s.kind) e) i; b = (e i).b; t = (e i).t; e = (e i).e }

one_done : (d f : Done) → done d ≡ done f → d ≡ f
one_done d f e = λ i. record { kind = one_kind d.kind f.kind (ap (λ s. s.kind) e) i; b = (e i).b; t = (e i).t; e = (e i).e }

both_found : (a b : While × Done) → further a ≡ further b → a ≡ b
both_found a b e = λ i. (one_while a.0 b.0 (ap (λ f. f.while) e) i, one_done a.1 b.1 (ap (λ f. f.done) e) i)

pub one_decision : (r s : Result (While × Done) Refusal) → said_decision r ≡ said_decision s → r ≡ s
one_decision = one_said_by both_found

pub one_applied : (r s : Result Done Refusal) → said_applied r ≡ said_applied s → r ≡ s
one_applied = one_said_by one_done

pub one_ran : (r s : Result ℕ Refusal) → said_run r ≡ said_run s → r ≡ s
one_ran = one_number

place_found : (p q : Place) → view p ≡ view q → p ≡ q
place_found (InDiff i) (InDiff j) e = cc
place_found (InDiff i) (InImage j) e = cc
place_found (InImage i) (InDiff j) e = cc
place_found (InImage i) (InImage j) e = cc

pub one_place : (r s : Result Place Refusal) → said_place r ≡ said_place s → r ≡ s
one_place = one_said_by place_found

pub one_gids : (r s : Result ℤ Refusal) → said_lag r ≡ said_lag s → r ≡ s
one_gids = one_said_by (λ m n e. e)

-- ---- each call

pub one_decide_on : (h : Diff.Head) (s : Paper.State) (r r' : Result (While × Done) Refusal) → said_decision r ≡ decide_on h s → said_decision r' ≡ decide_on h s → r ≡ r'
one_decide_on h s r r' e f = one_decision r r' (e ∙ sym f)

pub one_done_state : (h : Diff.Head) (s : Paper.State) (r r' : Done) → done r ≡ done_state h s → done r' ≡ done_state h s → r ≡ r'
one_done_state h s r r' e f = one_done r r' (e ∙ sym f)

pub one_decide : (d saved img : List ℕ) (r r' : Result (While × Done) Refusal) → said_decision r ≡ decide d saved img → said_decision r' ≡ decide d saved img → r ≡ r'
one_decide d saved img r r' e f = one_decision r r' (e ∙ sym f)

-- the state to save, of While and of Done
pub one_saved : (s : Paper.State) (r r' : State) → state r ≡ s → state r' ≡ s → r ≡ r'
one_saved s r r' e f = let same = one_state (Ok r) (Ok r') (ap answer (e ∙ sym f)) in cc

-- what an apply promises of its answer r and of the image at its end
pub record MeetsApply (d saved img : List ℕ) (r : Result Done Refusal) (end : List ℕ) : Type 0 where
  pub says : said_applied r ≡ comes_back (apply d saved img)
  pub leaves : end ≡ over img (apply d saved img)

pub one_apply : (d saved img : List ℕ) (r r' : Result Done Refusal) (end end' : List ℕ) → MeetsApply d saved img r end → MeetsApply d saved img r' end'
    → (r ≡ r') × (end ≡ end')
one_apply d saved img r r' end end' m n = (one_applied r r' (m.says ∙ sym n.says), m.leaves ∙ sym n.leaves)

-- what a run promises of its answer r and of the image at its end
pub record MeetsRun (d img : List ℕ) (i k : ℕ) (r : Result ℕ Refusal) (end : List ℕ) : Type 0 where
  pub says : said_run r ≡ comes_back (run d img i k)
  pub leaves : end ≡ over img (run d img i k)

pub one_run : (d img : List ℕ) (i k : ℕ) (r r' : Result ℕ Refusal) (end end' : List ℕ) → MeetsRun d img i k r end → MeetsRun d img i k r' end'
    → (r ≡ r') × (end ≡ end')
one_run d img i k r r' end end' m n = (one_ran r r' (m.says ∙ sym n.says), m.leaves ∙ sym n.leaves)

pub one_find_block : (d img : List ℕ) (a : ℕ) (r r' : Result Place Refusal) → said_place r ≡ read_through d img a → said_place r' ≡ read_through d img a → r ≡ r'
one_find_block d img a r r' e f = one_place r r' (e ∙ sym f)

-- what a read-through promises of the number and of the view v that it hands out
pub record MeetsReadThrough (d img : Bor (List ℕ)) (a : ℕ) (said : ℕ) (v : Bor (List ℕ)) : Type 0 where
  pub says : said ≡ number (read_through d.now img.now a)
  pub shows : v.now ≡ seen d.now img.now (read_through d.now img.now a)
  pub points : v.ref_ptr ≡ place_of d.ref_ptr img.ref_ptr (read_through d.now img.now a)

-- the number, the content and the pointer are one
pub record SameView (said said' : ℕ) (v v' : Bor (List ℕ)) : Type 0 where
  pub says : said ≡ said'
  pub shows : v.now ≡ v'.now
  pub points : v.ref_ptr ≡ v'.ref_ptr

pub one_read_through : (d img : Bor (List ℕ)) (a said said' : ℕ) (v v' : Bor (List ℕ))
    → MeetsReadThrough d img a said v → MeetsReadThrough d img a said' v' → SameView said said' v v'
one_read_through d img a said said' v v' m n =
    record { says = m.says ∙ sym n.says; shows = m.shows ∙ sym n.shows; points = m.points ∙ sym n.points }

-- and a view is no more than its pointer and its content
pub one_view : {said said' : ℕ} {v v' : Bor (List ℕ)} → SameView said said' v v' → v ≡ v'
one_view s = λ i. record { ref_ptr = s.points i; now = s.shows i }

pub one_lag : (saved : List ℕ) (target : ℕ) (r r' : Result ℤ Refusal) → said_lag r ≡ lag saved target → said_lag r' ≡ lag saved target → r ≡ r'
one_lag saved target r r' e f = one_gids r r' (e ∙ sym f)
