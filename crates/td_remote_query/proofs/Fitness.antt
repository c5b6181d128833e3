-- Offers that join are small and can be written, as what was read.
use Rattle.std.proofs.Common.{◌≡◌, ℕ, Bool, true, false, nat_eq, ◌+◌, List, [], ◌∷◌, ◌++◌, length, sym, subst}
use Rattle.std.proofs.Common.{leb-true, nat_le, Result, Ok, Err, IfOk}
use Rattle.std.specs.List.{AllByRecursion, list_all}
use Rattle.td_call.specs.Readings.{AdmitsAnswered}
use Rattle.td_cdr.specs.Sound.{either}
use Rattle.td_giop.proofs.Cond.{both_true}
use Rattle.td_ops.specs.Answers.{done_answer, no_answer, system_answer, user_answer}
use Rattle.td_ops.specs.Called.{operation_in}
use Rattle.td_ops.specs.Operations.{row}
use Rattle.td_ops.specs.Shapes.{results}
use Rattle.td_ops.specs.declared.call.Call.{Call}
use Rattle.td_ops.specs.declared.outcome.Answered.{Answered}
use Rattle.td_ops.specs.declared.outcome.Reply.{Reply}
use Rattle.td_ops.specs.declared.shape.Shape.{Shape}
use Rattle.td_ops.specs.declared.shape.Shape.TheVariants as shape
use Rattle.td_types.proofs.Sequences.{sequence-each}
use Rattle.td_value.specs.Structures.{offer}
use Rattle.td_value.specs.declared.structures.Offer.{Offer}
use Rattle.td_walk.specs.Peering.{IsSmallOffer}
use Rattle.td_walk.specs.declared.fault.PeerFault.{PeerFault}
use Rattle.td_remote_query.specs.Draining.{AreFit, AreWritable, HasWritable, TellsWritable, is_small, may_join}
use Rattle.td_remote_query.specs.Draining.{most_offers}

-- ---- offers that join

all_fit : (offers : List Offer) → list_all is_small offers ≡ true → AllByRecursion offer.format.admits offers
    → AreFit offers
all_fit [] e each = tt
all_fit (o ∷ offers) e each =
    let p = both_true (is_small o) (list_all is_small offers) e in
    (record { small = leb-true _ _ p.0; writable = each.0 }, all_fit offers p.1 each.1)

fit_behind : (old offers : List Offer) → AreFit old → AreFit offers → AreFit (old ++ offers)
fit_behind [] offers before more = more
fit_behind (o ∷ old) offers before more = (before.0, fit_behind old offers before.1 more)

pub joining_fit : (count : ℕ) (offers : List Offer) → may_join count offers ≡ true → AreWritable offers
    → AreFit offers
unfolding may_join
joining_fit count offers e writable =
    all_fit offers (both_true (nat_le (count + length offers) most_offers) (list_all is_small offers) e).1 writable.each

pub joined_fit : (old new offers : List Offer) (count : ℕ) → AreFit old → may_join count offers ≡ true
    → AreWritable offers → new ≡ old ++ offers → AreFit new
joined_fit old new offers count before joins writable is =
    subst AreFit (sym is) (fit_behind old offers before (joining_fit count offers joins writable))

pub fit_small : (offers : List Offer) → AreFit offers → AllByRecursion IsSmallOffer offers
fit_small [] fit = tt
fit_small (o ∷ offers) fit = (fit.0.small, fit_small offers fit.1)

pub fit_writable : (offers : List Offer) → AreFit offers → AllByRecursion offer.format.admits offers
fit_writable [] fit = tt
fit_writable (o ∷ offers) fit = (fit.0.writable, fit_writable offers fit.1)

-- ---- offers that were read

results_writable : (s : Shape) (r : Reply) → (results s).format.admits r → HasWritable r
results_writable shape.Found r h =
    subst HasWritable h.1 (record { each = sequence-each offer h.0.0 h.2.0 })
results_writable shape.Batch r h =
    subst HasWritable h.1 (record { each = sequence-each offer h.0.1 h.2.1 })
results_writable shape.Nothing r h = subst HasWritable h tt
results_writable shape.Id r h = subst HasWritable h.1 tt
results_writable shape.Number r h = subst HasWritable h.1 tt
results_writable shape.Truth r h = subst HasWritable h.1 tt
results_writable shape.Reference r h = subst HasWritable h.1 tt
results_writable shape.Follow r h = subst HasWritable h.1 tt
results_writable shape.Stem r h = subst HasWritable h.1 tt
results_writable shape.Incarnation r h = subst HasWritable h.1 tt
results_writable shape.Names r h = subst HasWritable h.1 tt
results_writable shape.Offer r h = subst HasWritable h.1 tt
results_writable shape.Link r h = subst HasWritable h.1 tt
results_writable shape.Proxy r h = subst HasWritable h.1 tt
results_writable shape.Typed r h = subst HasWritable h.1 tt
results_writable shape.Ids r h = subst HasWritable h.1 tt
results_writable shape.IdBatch r h = subst HasWritable h.1 tt

-- a body by what its status is
answer_writable : (done user system : Bool) (s : Shape) (a : Answered)
    → (either done (done_answer s) (either user user_answer (either system system_answer no_answer))).format.admits a
    → TellsWritable a
answer_writable true user system s a h = subst TellsWritable h.1 (results_writable s h.0 h.2)
answer_writable false true system s a h = subst TellsWritable h.1 tt
answer_writable false false true s a h = subst TellsWritable h.1 tt
answer_writable false false false s a h = absurd h

-- what a reply to a call tells
pub content_writable : (c : Call) (r : Result Answered PeerFault) → IfOk r (λ a. AdmitsAnswered c a)
    → IfOk r (λ a. TellsWritable a)
content_writable c (Ok a) h =
    answer_writable (nat_eq h.0 0) (nat_eq h.0 1) (nat_eq h.0 2) (row (operation_in c)).result a h.1
content_writable c (Err e) h = tt
