-- Each way to build a format is refused exactly where its parts make it.
use Rattle.std.proofs.Common.{◌≡◌, ℕ, zero, suc, ◌+◌, ◌-◌, ◌<◌, ◌≤◌, Bool, true, false, cond, List, [], ◌∷◌, ◌++◌}
use Rattle.std.proofs.Common.{length, drop, Result, Ok, Err, refl, sym, ap, subst, ◌∙◌, append_assoc, arith}
use Rattle.std.proofs.Common.{length-append, inl, inr}
use Rattle.std.proofs.lemmas.List.{drop_at}
use Rattle.std.specs.Prelude.{Option, Some, None}
use Rattle.td_cdr.specs.declared.order.Order.{Order}
use Rattle.td_cdr.specs.declared.fault.CdrFault.{CdrFault}
use Rattle.td_cdr.specs.Place.{At}
use Rattle.td_cdr.specs.Reading.{after}
use Rattle.td_cdr.specs.Spelling.{SpellsThen, FoundSpelling, Joins}
use Rattle.td_cdr.specs.Faults.{NumberFault, OuterFault, WithinFault, ThenFault, Refuses}
use Rattle.td_cdr.specs.Format.{◌>>=◌, Format, number, with_fault, dependent_pair, ◌&◌, structure_format}
use Rattle.td_cdr.specs.Format.{variant_format, constant_format, placeholder_format, failure_format, union_format}
use Rattle.td_cdr.specs.Format.{restriction_format, or_fault, partial_format, encapsulation_format, array_format}
use Rattle.td_cdr.specs.Format.{sequence_format}
use Rattle.td_cdr.specs.FormatFaults.{Faults, no_fault, each_fault, RestrictionFault, PartialFault, ArrayFault}
use Rattle.td_cdr.specs.FormatFaults.{SequenceFault}
use Rattle.td_cdr.specs.Lawful.{Lawful}
use Rattle.td_cdr.specs.LawfulFormats.{with_fault-lawful, number-lawful}
use Rattle.td_cdr.specs.Joined.{Found-then, moved-place, after-after}
use Rattle.td_cdr.specs.Refused.{bind_err, read_again, number-refuses, outer-refuses, mapped-refuses, chain-refuses}
use Rattle.td_cdr.specs.Refused.{pair-refuses, within-refuses, moved-on}

-- what a lawful format reads is what it spells
pub joins : {F Y : Type 0} (g : Format F Y) → Lawful g → Joins g.spells g.reads
joins g l = record { found = l.found; only = l.only }

-- what was found is what is read
found-read : {F Y : Type 0} (g : Format F Y) → Lawful g → (a : At) (v : Y) (next : At)
    → a.origin ≤ a.place → FoundSpelling g.spells a v next → g.reads a ≡ Ok (v, next)
found-read g l a v next h f = read_again g.spells g.reads (joins g l) a v next h f

-- ---- ways to build a format

pub with_fault-refuses : {E F Y : Type 0} (c : E → F) (g : Format E Y) (faults : Faults E)
    → Refuses faults g.reads → Refuses (OuterFault c faults) (with_fault c g).reads
with_fault-refuses c g faults r = outer-refuses c faults g.reads r

pub dependent_pair-refuses : {F X Y : Type 0} (first : Format F X) (second : X → Format F Y)
    (one : Faults F) (two : X → Faults F)
    → Lawful first → Refuses one first.reads → ((x : X) → Refuses (two x) (second x).reads)
    → Refuses (ThenFault first.spells one two) (dependent_pair first second).reads
dependent_pair-refuses first second one two l r s =
    pair-refuses first.spells one two first.reads (λ x. (second x).reads) (joins first l) r s

pub union_format-refuses : {F K Y : Type 0} (tag : Format F K) (tag_of : Y → K)
    (arm : K → Format F Y) (one : Faults F) (two : K → Faults F)
    → Lawful tag → Refuses one tag.reads → ((k : K) → Refuses (two k) (arm k).reads)
    → Refuses (ThenFault tag.spells one two) (union_format tag tag_of arm).reads
union_format-refuses tag tag_of arm one two l r s =
    chain-refuses tag.spells one two tag.reads (λ k. (arm k).reads) (joins tag l) r s

pub structure_format-refuses : {F X Y : Type 0} (to : X → Y) (from : Y → X) (g : Format F X)
    (faults : Faults F)
    → Refuses faults g.reads → Refuses faults (structure_format to from g).reads
structure_format-refuses to from g faults r = mapped-refuses faults g.reads (λ x. (to x.0, x.1)) r

pub variant_format-refuses : {F X Y : Type 0} (to : X → Y) (from : Y → Option X) (g : Format F X)
    (faults : Faults F)
    → Refuses faults g.reads → Refuses faults (variant_format to from g).reads
variant_format-refuses to from g faults r = mapped-refuses faults g.reads (λ x. (to x.0, x.1)) r

pub placeholder_format-refuses : {F X : Type 0} (x : X) (g : Format F X) (faults : Faults F)
    → Refuses faults g.reads → Refuses faults (placeholder_format x g).reads
placeholder_format-refuses x g faults r = mapped-refuses faults g.reads (λ v. (tt, v.1)) r

pub constant_format-refuses : {F X : Type 0} (x : X)
    → Refuses no_fault (constant_format {F = F} x).reads
constant_format-refuses x = record { content = λ a f h e. absurd cc; only = λ a f h d. absurd d }

abbrev refusal : {F : Type 0} → (A : Type 0) → F → Result A F
refusal A f = Err f

fault_is : {F : Type 0} (A : Type 0) (x y : F) → refusal A x ≡ refusal A y → x ≡ y
fault_is A x y e = cc

pub failure_format-refuses : {F X : Type 0} (bad : At → F)
    → Refuses (each_fault bad) (failure_format {X = X} bad).reads
failure_format-refuses {X = X} bad = record {
  content = λ a f h e. sym (fault_is (X × At) (bad a) f e);
  only = λ a f h d. ap (refusal (X × At)) (sym d);
}

-- ---- values that may not stand there

unfit_err : {F A : Type 0} (ok : Bool) (x : A) (d f : F) → cond ok (Ok x) (Err d) ≡ Err f
    → (ok ≡ false) × (f ≡ d)
unfit_err true x d f e = absurd cc
unfit_err false x d f e = (refl, cc)

restriction-content : {F X : Type 0} (ok : X → Bool) (bad : X → At → F) (g : Format F X)
    (faults : Faults F) → Lawful g
    → Refuses faults g.reads → (a : At) (f : F) → a.origin ≤ a.place
    → (restriction_format ok bad g).reads a ≡ Err f → RestrictionFault g.spells ok bad faults a f
restriction-content ok bad g faults l r a f h e =
    elim (bind_err (g.reads a) (λ x. cond (ok x.0) (Ok x) (Err (bad x.0 a))) f e) [
      | inl t ↦ RestrictionFault.unread (r.content a f h t)
      | inr t ↦ let u = unfit_err (ok t.0.0) t.0 (bad t.0.0 a) f t.2 in
          RestrictionFault.unfit t.0.0 t.0.1 (l.found a t.0.0 t.0.1 h t.1) u.0 u.1
    ]

restriction-refused : {F X : Type 0} (ok : X → Bool) (bad : X → At → F) (g : Format F X)
    (faults : Faults F) → Lawful g
    → Refuses faults g.reads → (a : At) (f : F) → a.origin ≤ a.place
    → RestrictionFault g.spells ok bad faults a f → (restriction_format ok bad g).reads a ≡ Err f
restriction-refused ok bad g faults l r a f h (RestrictionFault.unread d) = rw (r.only a f h d) refl
restriction-refused ok bad g faults l r a f h (RestrictionFault.unfit x next found unfit is) =
    rw (found-read g l a x next h found, unfit, is) refl

pub restriction_format-refuses : {F X : Type 0} (ok : X → Bool) (bad : X → At → F) (g : Format F X)
    (faults : Faults F)
    → Lawful g → Refuses faults g.reads
    → Refuses (RestrictionFault g.spells ok bad faults) (restriction_format ok bad g).reads
restriction_format-refuses ok bad g faults l r = record {
  content = restriction-content ok bad g faults l r;
  only = restriction-refused ok bad g faults l r;
}

unknown_err : {F Y : Type 0} (o : Option Y) (d f : F) (next : At) → or_fault o d next ≡ Err f
    → (o ≡ None) × (f ≡ d)
unknown_err (Some y) d f next e = absurd cc
unknown_err None d f next e = (refl, cc)

partial-content : {F X Y : Type 0} (to : X → Option Y) (from : Y → X) (bad : X → At → F)
    (g : Format F X) (faults : Faults F)
    → Lawful g → Refuses faults g.reads → (a : At) (f : F) → a.origin ≤ a.place
    → (partial_format to from bad g).reads a ≡ Err f → PartialFault g.spells to bad faults a f
partial-content to from bad g faults l r a f h e =
    elim (bind_err (g.reads a) (λ x. or_fault (to x.0) (bad x.0 a) x.1) f e) [
      | inl t ↦ PartialFault.unread (r.content a f h t)
      | inr t ↦ let u = unknown_err (to t.0.0) (bad t.0.0 a) f t.0.1 t.2 in
          PartialFault.unknown t.0.0 t.0.1 (l.found a t.0.0 t.0.1 h t.1) u.0 u.1
    ]

partial-refused : {F X Y : Type 0} (to : X → Option Y) (from : Y → X) (bad : X → At → F)
    (g : Format F X) (faults : Faults F)
    → Lawful g → Refuses faults g.reads → (a : At) (f : F) → a.origin ≤ a.place
    → PartialFault g.spells to bad faults a f → (partial_format to from bad g).reads a ≡ Err f
partial-refused to from bad g faults l r a f h (PartialFault.unread d) = rw (r.only a f h d) refl
partial-refused to from bad g faults l r a f h (PartialFault.unknown x next found unknown is) =
    rw (found-read g l a x next h found, unknown, is) refl

pub partial_format-refuses : {F X Y : Type 0} (to : X → Option Y) (from : Y → X) (bad : X → At → F)
    (g : Format F X) (faults : Faults F)
    → Lawful g → Refuses faults g.reads
    → Refuses (PartialFault g.spells to bad faults) (partial_format to from bad g).reads
partial_format-refuses to from bad g faults l r = record {
  content = partial-content to from bad g faults l r;
  only = partial-refused to from bad g faults l r;
}

-- ---- inside an encapsulation

pub encapsulation_format-refuses : {F Y : Type 0} (c : CdrFault → F) (g : Format F Y)
    (faults : Faults F)
    → Refuses faults g.reads → Refuses (WithinFault c faults) (encapsulation_format c g).reads
encapsulation_format-refuses c g faults r = within-refuses c faults g.reads r

-- ---- arrays and sequences

after-zero : (a : At) → after 0 a ≡ a
after-zero a =
    ap (λ (n : ℕ). record { rest = a.rest; place = n; origin = a.origin; order = a.order })
    (let e : a.place + 0 ≡ a.place = omega arith in e)

nothing-found : {F X : Type 0} (g : Format F X) (a : At) → FoundSpelling (array_format g 0).spells a
    [] a
nothing-found g a = record {
  bytes = [];
  spelled = (refl, refl);
  parts = refl;
  moved = sym (after-zero a);
}

nothing-moved : {F X : Type 0} (g : Format F X) (a next : At)
    → FoundSpelling (array_format g 0).spells a [] next → next ≡ a
nothing-moved g a next f = f.moved ∙ ap (λ (b : List ℕ). after (length b) a) f.spelled.1
    ∙ after-zero a

item-before : {F X : Type 0} (g : Format F X) (a b c : At) (x : X) (xs : List X)
    → a.origin ≤ a.place → FoundSpelling g.spells a x b
    → FoundSpelling (array_format g (length xs)).spells b xs c
    → FoundSpelling (array_format g (suc (length xs))).spells a (x ∷ xs) c
item-before g a b c x xs h f w =
    let both = Found-then g.spells (λ _. (array_format g (length xs)).spells) a b c x xs h f w in
    record {
      bytes = both.bytes;
      spelled = ((x, xs), refl, both.spelled);
      parts = both.parts;
      moved = both.moved;
    }

abbrev Halves : {X Y : Type 0} → (Order → ℕ → X → List ℕ → Type 0)
    → (Order → ℕ → Y → List ℕ → Type 0) → At → X → Y → At → Type 0
Halves first second a x y c = (b : At) × FoundSpelling first a x b × FoundSpelling second b y c

Found-halves : {X Y : Type 0} (first : Order → ℕ → X → List ℕ → Type 0)
    (second : Order → ℕ → Y → List ℕ → Type 0) (a c : At) (x : X) (y : Y) (bytes : List ℕ)
    → a.origin ≤ a.place → SpellsThen first (λ _. second) a.order (a.place - a.origin) (x, y) bytes
    → a.rest ≡ bytes ++ c.rest → c ≡ after (length bytes) a → Halves first second a x y c
Found-halves first second a c x y bytes h s parts moved =
    let whole : a.rest ≡ s.front ++ (s.back ++ c.rest) =
    parts ∙ ap (λ (b : List ℕ). b ++ c.rest) s.parts ∙ append_assoc s.front s.back c.rest in
    let left : drop (length s.front) a.rest ≡ s.back ++ c.rest =
    rw whole (drop_at s.front (s.back ++ c.rest) (length s.front) refl) in
    let here : second a.order ((after (length s.front) a).place - a.origin) y s.back =
    rw (moved-place (length s.front) a h) s.then_spelled in
    let long : length bytes ≡ length s.front
    + length s.back = rw s.parts (length-append s.front s.back) in (
      after (length s.front) a,
      record {
        bytes = s.front;
        spelled = s.spelled;
        parts = whole ∙ ap (λ (b : List ℕ). s.front ++ b) (sym left);
        moved = refl;
      },
      record {
        bytes = s.back;
        spelled = here;
        parts = left;
        moved = moved ∙ ap (λ (n : ℕ). after n a) long
            ∙ sym (after-after (length s.front) (length s.back) a);
      },
    )

array-halves : {F X : Type 0} (g : Format F X) (a c : At) (x : X) (xs : List X) → a.origin ≤ a.place
    → FoundSpelling (array_format g (suc (length xs))).spells a (x ∷ xs) c
    → Halves g.spells (array_format g (length xs)).spells a x xs c
array-halves {X = X} g a c x xs h f =
    let head : f.spelled.0.0 ≡ x = cc f.spelled.1 in
    let tail : f.spelled.0.1 ≡ xs = cc f.spelled.1 in
    let is : f.spelled.0 ≡ (x, xs) = ap (λ (y : X). (y, f.spelled.0.1)) head
    ∙ ap (λ (ys : List X). (x, ys)) tail in
    let spelled =
    subst (λ (p : X × List X).
    SpellsThen g.spells (λ _. (array_format g (length xs)).spells) a.order (a.place - a.origin)
    p f.bytes) is f.spelled.2 in
    Found-halves g.spells (array_format g (length xs)).spells a c x xs f.bytes h spelled f.parts
    f.moved

module _ {F X : Type 0} (g : Format F X) (faults : Faults F) where
  first-fault : (n : ℕ) (a : At) (f : F) → faults a f → ArrayFault g faults (suc n) a f
  first-fault n a f d = record {
    before = [];
    next = a;
    fewer = omega arith;
    found = nothing-found g a;
    holds = d;
  }

  later-fault : (n : ℕ) (a b : At) (x : X) (f : F) → a.origin ≤ a.place
      → FoundSpelling g.spells a x b
      → ArrayFault g faults n b f → ArrayFault g faults (suc n) a f
  later-fault n a b x f h w z = record {
    before = x ∷ z.before;
    next = z.next;
    fewer = omega (arith, z.fewer);
    found = item-before g a b z.next x z.before h w z.found;
    holds = z.holds;
  }

  array-content : Lawful g → Refuses faults g.reads → (n : ℕ) (a : At) (f : F) → a.origin ≤ a.place
      → (array_format g n).reads a ≡ Err f → ArrayFault g faults n a f
  array-content l r zero a f h e = absurd cc
  array-content l r (suc n) a f h e =
      elim (bind_err ((g & array_format g n).reads a) (λ x. Ok (x.0.0 ∷ x.0.1, x.1)) f e) [
        | inl t ↦ elim (bind_err (g.reads a)
            (λ x. (array_format g n).reads x.1 >>= λ y. Ok ((x.0, y.0), y.1)) f t) [
              | inl u ↦ first-fault n a f (r.content a f h u)
              | inr u ↦ let w = l.found a u.0.0 u.0.1 h u.1 in
                  elim (bind_err ((array_format g n).reads u.0.1) (λ y. Ok ((u.0.0, y.0), y.1)) f u.2) [
                    | inl v ↦ later-fault n a u.0.1 u.0.0 f h w
                        (array-content l r n u.0.1 f (moved-on g.spells a u.0.0 u.0.1 h w) v)
                    | inr v ↦ absurd (cc v.2)
                  ]
            ]
        | inr t ↦ absurd (cc t.2)
      ]

  array-refused : Lawful g → Refuses faults g.reads → (before : List X) (n : ℕ) (a next : At)
      (f : F)
      → a.origin ≤ a.place → length before < n
      → FoundSpelling (array_format g (length before)).spells a before next
      → faults next f → (array_format g n).reads a ≡ Err f
  array-refused l r before zero a next f h few found d = absurd (omega (arith, few))
  array-refused l r [] (suc n) a next f h few found d =
      rw (r.only a f h (subst (λ (b : At). faults b f) (nothing-moved g a next found) d)) refl
  array-refused l r (x ∷ xs) (suc n) a next f h few found d =
      let halves = array-halves g a next x xs h found in
      let one = found-read g l a x halves.0 h halves.1 in
      let two =
      array-refused l r xs n halves.0 next f (moved-on g.spells a x halves.0 h halves.1)
      (omega (arith, few)) halves.2 d in
      rw (one, two) refl

  pub array_format-refuses : Lawful g → Refuses faults g.reads → (n : ℕ)
      → Refuses (ArrayFault g faults n) (array_format g n).reads
  array_format-refuses l r n = record {
    content = array-content l r n;
    only = λ a f h z. array-refused l r z.before n a z.next f h z.fewer z.found z.holds;
  }

pub sequence_format-refuses : {F X : Type 0} (c : CdrFault → F) (g : Format F X) (faults : Faults F)
    → Lawful g
    → Refuses faults g.reads → Refuses (SequenceFault c g faults) (sequence_format c g).reads
sequence_format-refuses c g faults l r =
    union_format-refuses (with_fault c (number 4)) length (array_format g)
    (OuterFault c (NumberFault 4)) (ArrayFault g faults)
    (with_fault-lawful c (number 4) (number-lawful 4))
    (with_fault-refuses c (number 4) (NumberFault 4) (number-refuses 4))
    (array_format-refuses g faults l r)
