-- A call that is noted with what it gave, which can be written.
use Rattle.std.proofs.Common.{◌≡◌, ◌∙◌, ℕ, ◌≤◌, List, [], ◌∷◌, ◌++◌, map, Ok, Err, refl, sym, ap, subst, arith}
use Rattle.std.proofs.lemmas.List.{map-append}
use Rattle.td_cdr.specs.Format.{Unless}
use Rattle.td_out.specs.Causes.{Rose}
use Rattle.td_walk.proofs.Gifts.{gave_next}
use Rattle.td_walk.specs.Peering.{AdmitsExchanges, AdmitsGift, PeerCall, Exchange, PeerAnswer, IsNoted, exchange}
use Rattle.td_walk.specs.Peering.{is_memory}
use Rattle.td_walk.specs.declared.fault.PeerFault.{PeerFault}
use Rattle.td_walk.specs.declared.fault.PeerFault.TheVariants as fault
use Rattle.td_ghost_list.specs.Entries.{entries_of}
use Rattle.td_ghost_list.specs.declared.past.Past.{Past}
use Rattle.td_client.specs.Noted.{exchange_of, exchanges, note_failure}
use Rattle.td_client.specs.declared.note.Note.{Note}

pub one_more : (notes new : Past Note) (n : Note) → entries_of new ≡ entries_of notes ++ n ∷ []
    → exchanges new ≡ exchanges notes ++ exchange_of n ∷ []
one_more notes new n is = ap (map exchange_of) is ∙ map-append exchange_of (entries_of notes) (n ∷ [])

pub one_admitted : (notes new : Past Note) (n : Note) → entries_of new ≡ entries_of notes ++ n ∷ []
    → AdmitsExchanges (exchanges notes) → AdmitsGift (exchange_of n).gave → AdmitsExchanges (exchanges new)
one_admitted notes new n is gave gift =
    subst AdmitsExchanges (sym (one_more notes new n is)) (gave_next (exchanges notes) (exchange_of n) gave gift)

failed_is : {X : Type 0} (given : X → PeerAnswer) (c : PeerCall) (f : PeerFault) → exchange given c (Err f) ≡ note_failure c f
failed_is given c fault.Wire = refl
failed_is given c fault.Grammar = refl
failed_is given c fault.Exception = refl
failed_is given c fault.Memory = refl

pub noted_fault : {X : Type 0} (given : X → PeerAnswer) (c : PeerCall) (before after : List Exchange) (f0 f1 : ℕ)
    (f : PeerFault) → after ≡ before ++ note_failure c f → f0 ≤ f1 → Unless (is_memory f) (Rose f0 f1)
    → IsNoted given c before after f0 f1 (Err f)
noted_fault given c before after f0 f1 f is later cause = record {
  calls = is ∙ ap (λ (x : List Exchange). before ++ x) (sym (failed_is given c f));
  later = later;
  cause = cause;
}

pub noted_answer : {X : Type 0} (given : X → PeerAnswer) (c : PeerCall) (before after : List Exchange) (e : Exchange) (f : ℕ)
    (x : X) → after ≡ before ++ e ∷ [] → e ≡ record { call = c; gave = given x }
    → IsNoted given c before after f f (Ok x)
noted_answer given c before after e f x is noted = record {
  calls = is ∙ ap (λ (y : Exchange). before ++ y ∷ []) noted;
  later = omega arith;
  cause = tt;
}
