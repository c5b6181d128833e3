-- What is read part by part.
use Rattle.std.proofs.Common.{◌≡◌, ℕ, ◌+◌, ◌<◌, ◌≤◌, Result, Ok, Err, List, [], ◌∷◌, ◌++◌, length, drop, get_or}
use Rattle.std.proofs.Common.{refl, sym, ap, ◌∙◌, append_assoc}
use Rattle.std.proofs.lemmas.List.{drop_more, drop_all, append-nil}
use Rattle.td_cdr.specs.declared.value_fault.ValueFault.{ValueFault}
use Rattle.td_cdr.specs.declared.value_fault.ValueFault.TheVariants.{BadValue}
use Rattle.td_cdr.specs.Place.{At}
use Rattle.td_cdr.specs.Reading.{number_at, encapsulation_at, next_aligned}
use Rattle.td_cdr.specs.Format.{Read, ◌>>=◌, Format, array_format, Gives}
use Rattle.td_cdr.specs.Sound.{Sound, ◌&◌, text, sequence, encapsulation}
use Rattle.td_cdr.specs.ValueFaults.{is_memory}
use Rattle.td_cdr.proofs.SequenceReading.{with_front}
use Rattle.td_cdr.proofs.Unless.{unless-map}
use Rattle.td_typecode.specs.declared.code.TypeCode.{TypeCode}
use Rattle.td_typecode.specs.declared.code.TypeCode.TheVariants as code
use Rattle.td_typecode.specs.declared.code.Value.{Value}
use Rattle.td_typecode.specs.declared.code.Member.{Member}
use Rattle.td_typecode.specs.Formats.{nonempty_sequence}
use Rattle.td_typecode.specs.Codes.{header, positive, member, arm_of, struct_code, except_code, sequence_code}
use Rattle.td_typecode.specs.Codes.{array_code}
use Rattle.td_typecode.specs.Codes.{alias_code, object_code, enum_code}
use Rattle.td_typecode.specs.declared.code.Any.{Any}
use Rattle.td_typecode.specs.ValueLayers.{LayerParts, each}

abbrev failed : {F A : Type 0} → F → Result A F
failed e = Err e

with-none : {F X : Type 0} (r : Read F (List X)) → with_front [] r ≡ r
with-none (Ok x) = refl
with-none (Err e) = refl

pub front-none : {F X : Type 0} (front : List X) (r : Read F (List X)) → front ≡ [] → with_front front r ≡ r
front-none front r none = rw none (with-none r)

-- a loop over items begins
pub begins : {F X : Type 0} (g : Format F X) (front : List X) (count n : ℕ) (a : At) → front ≡ [] → n ≡ count
    → with_front front ((array_format g n).reads a) ≡ (array_format g count).reads a
begins g front count n a none all = rw (none, all) (with-none ((array_format g count).reads a))

pub both-read : {F X Y : Type 0} (j : Sound F X) (k : Sound F Y) (a b new : At) (x : X) (y : Y)
    → j.format.reads a ≡ Ok (x, b) → k.format.reads b ≡ Ok (y, new) → (j & k).format.reads a ≡ Ok ((x, y), new)
both-read j k a b new x y f g = rw (f, g) refl

pub object-read : (a new : At) (h : List ℕ × List ℕ) → header.format.reads a ≡ Ok (h, new)
    → object_code.format.reads a ≡ Ok (code.ObjRef h.0 h.1, new)
object-read a new h f = rw f refl

pub enum-read : (a b new : At) (h : List ℕ × List ℕ) (names : List (List ℕ)) → header.format.reads a ≡ Ok (h, b)
    → (nonempty_sequence text).format.reads b ≡ Ok (names, new)
    → enum_code.format.reads a ≡ Ok (code.Enum h.0 h.1 names, new)
enum-read a b new h names f g = rw (f, g) refl

pub struct-read : (inner : Sound ValueFault TypeCode) (a b new : At) (h : List ℕ × List ℕ) (ms : List Member)
    → header.format.reads a ≡ Ok (h, b) → (nonempty_sequence (member inner)).format.reads b ≡ Ok (ms, new)
    → (struct_code inner).format.reads a ≡ Ok (code.Struct h.0 h.1 ms, new)
struct-read inner a b new h ms f g = rw (f, g) refl

pub except-read : (inner : Sound ValueFault TypeCode) (a b new : At) (h : List ℕ × List ℕ) (ms : List Member)
    → header.format.reads a ≡ Ok (h, b) → (sequence (member inner)).format.reads b ≡ Ok (ms, new)
    → (except_code inner).format.reads a ≡ Ok (code.Except h.0 h.1 ms, new)
except-read inner a b new h ms f g = rw (f, g) refl

pub sequence-read : (inner : Sound ValueFault TypeCode) (a b new : At) (item : TypeCode) (bound : ℕ)
    → inner.format.reads a ≡ Ok (item, b) → number_at 4 b ≡ Ok (bound, new)
    → (sequence_code inner).format.reads a ≡ Ok (code.Sequence item bound, new)
sequence-read inner a b new item bound f g = rw (f, g) refl

pub array-read : (inner : Sound ValueFault TypeCode) (a b new : At) (item : TypeCode) (len : ℕ)
    → inner.format.reads a ≡ Ok (item, b) → positive.format.reads b ≡ Ok (len, new)
    → (array_code inner).format.reads a ≡ Ok (code.Array item len, new)
array-read inner a b new item len f g = rw (f, g) refl

pub alias-read : (inner : Sound ValueFault TypeCode) (a new : At) (h : List ℕ × List ℕ) (item : TypeCode)
    → (header & inner).format.reads a ≡ Ok ((h, item), new)
    → (alias_code inner).format.reads a ≡ Ok (code.Alias h.0 h.1 item, new)
alias-read inner a new h item f = rw f refl

pub member-read : (inner : Sound ValueFault TypeCode) (a b new : At) (name : List ℕ) (t : TypeCode)
    → text.format.reads a ≡ Ok (name, b) → inner.format.reads b ≡ Ok (t, new)
    → (member inner).format.reads a ≡ Ok (record { name = name; code = t }, new)
member-read inner a b new name t f g = rw (f, g) refl

pub arm-read : (label : Sound ValueFault Value) (inner : Sound ValueFault TypeCode) (a b new : At) (l : Value)
    (m : Member)
    → label.format.reads a ≡ Ok (l, b) → (member inner).format.reads b ≡ Ok (m, new)
    → (arm_of label inner).format.reads a ≡ Ok (record { label = l; name = m.name; code = m.code }, new)
arm-read label inner a b new l m f g = rw (f, g) refl

pub arm-fails : (label : Sound ValueFault Value) (inner : Sound ValueFault TypeCode) (a b new : At) (l : Value)
    (e : ValueFault)
    → label.format.reads a ≡ Ok (l, b) → Gives is_memory new (failed e) ((member inner).format.reads b)
    → Gives is_memory new (failed e) ((arm_of label inner).format.reads a)
arm-fails label inner a b new l e f = unless-map (is_memory e) _ _ (λ g. rw (f, g) refl)

pub nonempty-fails : {X : Type 0} (g : Sound ValueFault X) (a new : At) (xs : List X)
    → (sequence g).format.reads a ≡ Ok (xs, new) → xs ≡ []
    → (nonempty_sequence g).format.reads a ≡ Err (BadValue (next_aligned 4 a))
nonempty-fails g a new xs f none = rw (f, none) refl

pub nonempty-read : {X : Type 0} (g : Sound ValueFault X) (a new : At) (xs : List X)
    → (sequence g).format.reads a ≡ Ok (xs, new) → (xs ≡ [] → ⊥)
    → (nonempty_sequence g).format.reads a ≡ Ok (xs, new)
nonempty-read g a new [] f some = absurd (some refl)
nonempty-read g a new (x ∷ xs) f some = rw f refl

-- inside an encapsulation
pub within : (g : Sound ValueFault TypeCode) (a inner next new : At) (result : Result TypeCode ValueFault)
    → encapsulation_at a ≡ Ok (inner, next) → Gives is_memory new result (g.format.reads inner)
    → Gives is_memory next result ((encapsulation g).format.reads a)
within g a inner next new (Ok t) e h = rw (e, h) refl
within g a inner next new (Err f) e h =
    unless-map (is_memory f) (g.format.reads inner ≡ Err f) ((encapsulation g).format.reads a ≡ Err f)
    (λ k. rw (e, k) refl) h

-- ---- the members' values

abbrev paired : {F X : Type 0} → X → Read F (List X) → Read F (X × List X)
paired m r = r >>= λ o. Ok ((m, o.0), o.1)

regroup : {F X : Type 0} (front : List X) (m : X) (r : Read F (List X))
    → with_front front (paired m r >>= λ o. Ok (o.0.0 ∷ o.0.1, o.1)) ≡ with_front (front ++ m ∷ []) r
regroup {X = X} front m (Ok x) = ap (λ (ms : List X). Ok (ms, x.1)) (simp append_assoc)
regroup front m (Err e) = refl

module _ {T R M : Type 0} (parts : LayerParts T R M) (any : Sound ValueFault Any) (code : Sound ValueFault TypeCode)
    (inner : T → Sound ValueFault Value) where
  abbrev pub rest : List Value → List M → ℕ → At → Read ValueFault (List Value)
  rest front ms i a = with_front front ((each parts any code inner (drop i ms)).format.reads a)

  member-next : (ms : List M) (i : ℕ) (m : M) → i < length ms → m ≡ get_or ms i m
      → drop i ms ≡ m ∷ drop (i + 1) ms
  member-next ms i m lt is = drop_more ms i m lt ∙ ap (λ (x : M). x ∷ drop (i + 1) ms) (sym is)

  pub each-goes-on : (front : List Value) (ms : List M) (i : ℕ) (m : M) (a b : At) (v : Value)
      (total : Read ValueFault (List Value))
      → i < length ms → m ≡ get_or ms i m → (inner (parts.member_code m)).format.reads a ≡ Ok (v, b) → rest front ms i a ≡ total
      → rest (front ++ v ∷ []) ms (i + 1) b ≡ total
  each-goes-on front ms i m a b v total lt is h so_far =
      let step : rest front ms i a ≡ rest (front ++ v ∷ []) ms (i + 1) b =
      rw (member-next ms i m lt is, h) (regroup front v ((each parts any code inner (drop (i + 1) ms)).format.reads b)) in
      sym step ∙ so_far

  each-error : (front : List Value) (ms : List M) (i : ℕ) (m : M) (a : At) (e : ValueFault)
      (total : Read ValueFault (List Value))
      → i < length ms → m ≡ get_or ms i m → (inner (parts.member_code m)).format.reads a ≡ Err e → rest front ms i a ≡ total
      → total ≡ Err e
  each-error front ms i m a e total lt is h so_far =
      let stop : rest front ms i a ≡ Err e = rw (member-next ms i m lt is, h) refl in
      sym so_far ∙ stop

  pub each-fails : (front : List Value) (ms : List M) (i : ℕ) (m : M) (a b : At) (e : ValueFault)
      (total : Read ValueFault (List Value))
      → i < length ms → m ≡ get_or ms i m → Gives is_memory b (failed e) ((inner (parts.member_code m)).format.reads a)
      → rest front ms i a ≡ total → Gives is_memory b (failed e) total
  each-fails front ms i m a b e total lt is h so_far =
      unless-map (is_memory e) _ _ (λ g. each-error front ms i m a e total lt is g so_far) h

  pub each-done : (front : List Value) (ms : List M) (i : ℕ) (a : At) (total : Read ValueFault (List Value))
      → length ms ≤ i → rest front ms i a ≡ total → total ≡ Ok (front, a)
  each-done front ms i a total le so_far =
      let none : drop i ms ≡ [] = drop_all i ms le in
      let last : rest front ms i a ≡ Ok (front, a) =
      rw none (ap (λ (vs : List Value). Ok (vs, a)) (append-nil front)) in
      sym so_far ∙ last
