-- A loop over items: those read so far, in front of what is left to read.
use Rattle.std.proofs.Common.{◌≡◌, ℕ, suc, ◌+◌, ◌-◌, ◌<◌, ◌≤◌, Bool, List, [], ◌∷◌, ◌++◌, Result, Ok, Err}
use Rattle.std.proofs.Common.{refl, sym, ap, ◌∙◌, append_assoc, arith}
use Rattle.std.proofs.lemmas.List.{append-nil}
use Rattle.td_cdr.specs.Place.{At}
use Rattle.td_cdr.specs.Format.{Read, ◌>>=◌, Format, array_format, Gives}
use Rattle.td_cdr.proofs.Unless.{unless-map}

abbrev pub with_front : {F X : Type 0} → List X → Read F (List X) → Read F (List X)
with_front front r = r >>= λ x. Ok (front ++ x.0, x.1)

abbrev paired : {F X : Type 0} → X → Read F (List X) → Read F (X × List X)
paired m r = r >>= λ o. Ok ((m, o.0), o.1)

regroup : {F X : Type 0} (front : List X) (m : X) (r : Read F (List X))
    → with_front front (paired m r >>= λ o. Ok (o.0.0 ∷ o.0.1, o.1)) ≡ with_front (front ++ m ∷ []) r
regroup {X = X} front m (Ok x) = ap (λ (ms : List X). Ok (ms, x.1)) (simp append_assoc)
regroup front m (Err e) = refl

pub goes_on : {F X : Type 0} (g : Format F X) (front : List X) (count i : ℕ) (a b : At) (m : X)
    (total : Read F (List X))
    → i < count → g.reads a ≡ Ok (m, b) → with_front front ((array_format g (count - i)).reads a) ≡ total
    → with_front (front ++ m ∷ []) ((array_format g (count - (i + 1))).reads b) ≡ total
goes_on g front count i a b m total lt h so_far =
    let k : count - i ≡ suc (count - (i + 1)) = omega arith in
    let one : with_front front ((array_format g (count - i)).reads a)
    ≡ with_front (front ++ m ∷ []) ((array_format g (count - (i + 1))).reads b) =
    rw (k, h) (regroup front m ((array_format g (count - (i + 1))).reads b)) in
    sym one ∙ so_far

fails : {F X : Type 0} (g : Format F X) (front : List X) (count i : ℕ) (a : At) (e : F) (total : Read F (List X))
    → i < count → g.reads a ≡ Err e → with_front front ((array_format g (count - i)).reads a) ≡ total → total ≡ Err e
fails g front count i a e total lt h so_far =
    let k : count - i ≡ suc (count - (i + 1)) = omega arith in
    let one : with_front front ((array_format g (count - i)).reads a) ≡ Err e = rw (k, h) refl in
    sym so_far ∙ one

abbrev failed : {F A : Type 0} → F → Result A F
failed e = Err e

pub ends : {F X : Type 0} (is_memory : F → Bool) (g : Format F X) (front : List X) (count i : ℕ) (a b : At) (e : F)
    (total : Read F (List X))
    → i < count → Gives is_memory b (failed e) (g.reads a)
    → with_front front ((array_format g (count - i)).reads a) ≡ total → Gives is_memory b (failed e) total
ends is_memory g front count i a b e total lt h so_far =
    unless-map (is_memory e) _ _ (λ h. fails g front count i a e total lt h so_far) h

pub is_done : {F X : Type 0} (g : Format F X) (front : List X) (count i : ℕ) (a : At) (total : Read F (List X))
    → count ≤ i → with_front front ((array_format g (count - i)).reads a) ≡ total → total ≡ Ok (front, a)
is_done {F = F} {X = X} g front count i a total le so_far =
    let k : count - i ≡ 0 = omega arith in
    let one : with_front front ((array_format g (count - i)).reads a) ≡ Ok (front, a) =
    rw k (ap (λ (ms : List X). Ok (ms, a)) (append-nil front)) in
    sym so_far ∙ one
