-- Each way to build a reading extends the one without a state where its parts do.
use Rattle.std.specs.Prelude.{ℕ, zero, suc, ◌+◌, ◌-◌, Bool, true, false, if◌then◌else◌, List, [], ◌∷◌, ◌++◌, length, Ok, Err}
use Rattle.std.proofs.Common.{◌≡◌, refl, sym, ap, subst, ◌∙◌, append_assoc, length-append}
use Rattle.std.proofs.lemmas.List.{append-nil}
use Rattle.td_cdr.specs.Place.{At}
use Rattle.td_cdr.specs.Format.{◌>>=◌, Read, Format, as_fault, array_format}
use Rattle.td_cdr.specs.Reading.{encapsulation_at}
use Rattle.td_cdr.specs.declared.value_fault.ValueFault.{ValueFault}
use Rattle.td_cdr.specs.declared.value_fault.ValueFault.TheVariants as fault
use Rattle.td_typecode.specs.Formats.{is_nonempty}
use Rattle.td_typecode.specs.declared.code.TypeCode.{TypeCode}
use Rattle.td_indirection.specs.States.{with_slots, inside_state, behind_state}
use Rattle.td_indirection.specs.Stateful.{Sound}
use Rattle.td_indirection.specs.Choices.{array}
use Rattle.td_typecode.specs.Known.{KnownNode, KnownState, KnownSlot}
use Rattle.td_typecode.specs.Extension.{PlainReading, StatefulReading, IsIndirection, IsDepth, indirection, depth, same}
use Rattle.td_typecode.specs.Extension.{ReadsLike, ReadsAlike, AllLaid}
use Rattle.td_typecode.specs.Followed.{IsLinked, LeadsOn, KeepsLinked, lift_on, made_on, then_on, within_on, bind-leads}
use Rattle.td_typecode.specs.Followed.{array-keeps, chosen-leads}

abbrev pub made : {X Y : Type 0} → (X → Y) → PlainReading X → PlainReading Y
made {Y = Y} f p = λ a. p a >>= λ x. Ok (f x.0, x.1)

abbrev pub pair_on : {X Y : Type 0} → PlainReading X → (X → PlainReading Y) → PlainReading (X × Y)
pair_on {X = X} {Y = Y} p q = λ a. p a >>= λ x. q x.0 x.1 >>= λ y. Ok ((x.0, y.0), y.1)

abbrev pub within : {X : Type 0} → PlainReading X → PlainReading X
within {X = X} p = λ a. as_fault fault.Cdr (encapsulation_at a) >>= λ e. p e.0 >>= λ v.
    Ok (v.0, e.1)

-- ---- what an answer goes on with

pub depth-any : {X Z : Type 0} (R : X → Z → KnownState → Type 0) (q : Read ValueFault X)
    (e : ValueFault) → IsDepth e
    → ReadsLike {X = X} {Z = Z} R q (Err e)
depth-any R (Ok x) e f = f
depth-any R (Err d) e f = depth f

pub indirection-any : {X Z : Type 0} (R : X → Z → KnownState → Type 0) (e : ValueFault)
    (r : Read ValueFault (Z × KnownState)) → IsIndirection e → LeadsOn r
    → ReadsLike {X = X} {Z = Z} R (Err e) r
indirection-any R e (Ok v) m l = (m, l)
indirection-any R e (Err d) m l = indirection m

pub bind-extends : {X Z Y W : Type 0} (R : X → Z → KnownState → Type 0)
    (Q : Y → W → KnownState → Type 0) (q : Read ValueFault X) (r : Read ValueFault (Z × KnownState))
    (f : X × At → Read ValueFault Y) (h : (Z × KnownState) × At → Read ValueFault (W × KnownState))
    → ReadsLike R q r
    → ((x : X) (z : Z) (m : KnownState) (a : At) → R x z m → ReadsLike Q (f (x, a)) (h ((z, m), a)))
    → ((v : (Z × KnownState) × At) → IsLinked v.0.1 → LeadsOn (h v))
    → ReadsLike Q (q >>= f) (r >>= h)
bind-extends R Q (Ok x) (Ok v) f h s k j =
    subst (λ (a : At). ReadsLike Q (f x) (h (v.0, a))) s.1 (k x.0 v.0.0 v.0.1 x.1 s.0)
bind-extends R Q (Ok x) (Err e) f h s k j = depth-any Q (f x) e s
bind-extends R Q (Err e) (Ok v) f h s k j = indirection-any Q e (h v) s.0 (j v s.1)
bind-extends R Q (Err e) (Err d) f h s k j = s

-- both go on from one reading without a state
pub plain-extends : {K Y W : Type 0} (Q : Y → W → KnownState → Type 0) (q : Read ValueFault K)
    (f : K × At → Read ValueFault Y) (h : K × At → Read ValueFault (W × KnownState))
    → ((k : K × At) → ReadsLike Q (f k) (h k)) → ReadsLike Q (q >>= f) (q >>= h)
plain-extends Q (Ok k) f h s = s k
plain-extends Q (Err e) f h s = same refl

pub lifted-extends : {K Y W : Type 0} (Q : Y → W → KnownState → Type 0) (s : KnownState)
    (q : Read ValueFault K) (f : K × At → Read ValueFault Y)
    (h : (K × KnownState) × At → Read ValueFault (W × KnownState))
    → ((k : K × At) → ReadsLike Q (f k) (h ((k.0, s), k.1)))
    → ReadsLike Q (q >>= f) ((q >>= λ x. Ok ((x.0, s), x.1)) >>= h)
lifted-extends Q s (Ok k) f h j = j k
lifted-extends Q s (Err e) f h j = same refl

pub end-extends : {X Z W : Type 0} (R : X → Z → KnownState → Type 0)
    (Q : X → W → KnownState → Type 0) (q : Read ValueFault X) (r : Read ValueFault (Z × KnownState))
    (g : Z → KnownState → W) (h : Z → KnownState → KnownState) → ReadsLike R q r
    → ((x : X) (z : Z) (m : KnownState) → R x z m → Q x (g z m) (h z m))
    → ((z : Z) (m : KnownState) → IsLinked m → IsLinked (h z m))
    → ReadsLike Q q (r >>= λ v. Ok ((g v.0.0 v.0.1, h v.0.0 v.0.1), v.1))
end-extends R Q (Ok x) (Ok v) g h s k l = (k x.0 v.0.0 v.0.1 s.0, s.1)
end-extends R Q (Ok x) (Err e) g h s k l = s
end-extends R Q (Err e) (Ok v) g h s k l = (s.0, l v.0.0 v.0.1 s.1)
end-extends R Q (Err e) (Err d) g h s k l = s

pub front-extends : {X Z Y : Type 0} (R : X → Z → KnownState → Type 0)
    (Q : Y → Z → KnownState → Type 0) (f : X → Y) (q : Read ValueFault X)
    (r : Read ValueFault (Z × KnownState)) → ReadsLike R q r
    → ((x : X) (z : Z) (m : KnownState) → R x z m → Q (f x) z m)
    → ReadsLike Q (q >>= λ x. Ok (f x.0, x.1)) r
front-extends R Q f (Ok x) (Ok v) s k = (k x.0 v.0.0 v.0.1 s.0, s.1)
front-extends R Q f (Ok x) (Err e) s k = s
front-extends R Q f (Err e) (Ok v) s k = s
front-extends R Q f (Err e) (Err d) s k = s

abbrev pub IsSameAt : {X : Type 0} → KnownState → X → X → KnownState → Type 0
IsSameAt s x z m = (x ≡ z) × (m ≡ s)

kept-any : {X : Type 0} (s : KnownState) (q : Read ValueFault X)
    → ReadsLike (IsSameAt s) q (q >>= λ x. Ok ((x.0, s), x.1))
kept-any s (Ok x) = ((refl, refl), refl)
kept-any s (Err e) = same refl

pub kept-extends : {X : Type 0} (s : KnownState) (p : PlainReading X) → ReadsAlike (IsSameAt s) s p
    (lift_on p)
kept-extends s p a = kept-any s (p a)

-- ---- ways to build a reading

pub made-extends : {X Z Y W : Type 0} (R : X → Z → KnownState → Type 0)
    (Q : Y → W → KnownState → Type 0) (s : KnownState) (f : X → Y) (g : Z → W) (p : PlainReading X)
    (t : StatefulReading Z) → ReadsAlike R s p t
    → ((x : X) (z : Z) (m : KnownState) → R x z m → Q (f x) (g z) m)
    → ReadsAlike Q s (made f p) (made_on g t)
made-extends R Q s f g p t j k a =
    bind-extends R Q (p a) (t s a) (λ x. Ok (f x.0, x.1)) (λ x. Ok ((g x.0.0, x.0.1), x.1)) (j a)
    (λ x z m b r. (k x z m r, refl)) (λ v e. e)

abbrev pub Both : {X Z Y W : Type 0} (R : X → Z → KnownState → Type 0)
    (Q : X → Z → KnownState → Y → W → KnownState → Type 0) → X × Y → Z × W → KnownState → Type 0
Both R Q v w n = (m : KnownState) × R v.0 w.0 m × Q v.0 w.0 m v.1 w.1 n

pub pair-extends : {X Z Y W : Type 0} (R : X → Z → KnownState → Type 0)
    (Q : X → Z → KnownState → Y → W → KnownState → Type 0)
    (s : KnownState) (p : PlainReading X) (t : StatefulReading Z) (q : X → PlainReading Y)
    (u : Z → StatefulReading W)
    → ReadsAlike R s p t
    → ((x : X) (z : Z) (m : KnownState) → R x z m → ReadsAlike (Q x z m) m (q x) (u z))
    → ((z : Z) → KeepsLinked (u z)) → ReadsAlike (Both R Q) s (pair_on p q) (then_on t u)
pair-extends R Q s p t q u j k l a =
    bind-extends R (Both R Q) (p a) (t s a) (λ x. q x.0 x.1 >>= λ y. Ok ((x.0, y.0), y.1))
    (λ x. u x.0.0 x.0.1 x.1 >>= λ y. Ok (((x.0.0, y.0.0), y.0.1), y.1)) (j a)
    (λ x z m b r. bind-extends (Q x z m) (Both R Q) (q x b) (u z m b) (λ y. Ok ((x, y.0), y.1))
    (λ y. Ok (((z, y.0.0), y.0.1), y.1)) (k x z m r b) (λ y w n c o. ((m, r, o), refl)) (λ v e. e))
    (λ v e. bind-leads (u v.0.0 v.0.1 v.1) (λ y. Ok (((v.0.0, y.0.0), y.0.1), y.1))
    (l v.0.0 v.0.1 v.1 e) (λ y f. f))

-- the first of which knows no state
abbrev pub Behind : {X Y W : Type 0} (Q : X → Y → W → KnownState → Type 0) → X × Y → X × W
    → KnownState → Type 0
Behind Q v w n = (v.0 ≡ w.0) × Q v.0 v.1 w.1 n

pub behind-extends : {X Y W : Type 0} (Q : X → Y → W → KnownState → Type 0) (s : KnownState)
    (p : PlainReading X) (q : X → PlainReading Y) (u : X → StatefulReading W)
    → ((x : X) → ReadsAlike (Q x) s (q x) (u x))
    → ReadsAlike (Behind Q) s (pair_on p q) (then_on (lift_on p) u)
behind-extends Q s p q u k a =
    lifted-extends (Behind Q) s (p a) (λ x. q x.0 x.1 >>= λ y. Ok ((x.0, y.0), y.1))
    (λ x. u x.0.0 x.0.1 x.1 >>= λ y. Ok (((x.0.0, y.0.0), y.0.1), y.1))
    (λ x. bind-extends (Q x.0) (Behind Q) (q x.0 x.1) (u x.0 s x.1) (λ y. Ok ((x.0, y.0), y.1))
    (λ y. Ok (((x.0, y.0.0), y.0.1), y.1)) (k x.0 x.1) (λ y w n c o. ((refl, o), refl)) (λ v e. e))

-- both go on inside what one reading without a state gave
inside-extends : {Y Z W : Type 0} (Q : Y → W → KnownState → Type 0) (q : Read ValueFault At)
    (f : At × At → Read ValueFault Y) (h : At × At → Read ValueFault (Z × KnownState))
    (g : (Z × KnownState) × At → Read ValueFault (W × KnownState))
    → ((k : At × At) → ReadsLike Q (f k) (h k >>= g)) → ReadsLike Q (q >>= f) ((q >>= h) >>= g)
inside-extends Q (Ok k) f h g s = s k
inside-extends Q (Err e) f h g s = same refl

pub within-extends : {X Z : Type 0} (R : At → X → Z → KnownState → Type 0)
    (Q : X → Z → KnownState → Type 0) (s : KnownState) (p : PlainReading X) (t : StatefulReading Z)
    → ((a : At) → ReadsAlike (R a) (inside_state s (a.place - a.origin)) p t)
    → ((a : At) (x : X) (z : Z) (m : KnownState) → R a x z m → Q x z (behind_state s m))
    → ReadsAlike Q s (within p) (within_on t)
within-extends R Q s p t j k a =
    let inner = inside_state s (a.place - a.origin) in
    inside-extends Q (as_fault fault.Cdr (encapsulation_at a)) (λ e. p e.0 >>= λ v. Ok (v.0, e.1))
    (λ e. t inner e.0 >>= λ v. Ok (v.0, e.1)) (λ x. Ok ((x.0.0, behind_state s x.0.1), x.1))
    (λ e. end-extends (R a) Q (p e.0 >>= λ v. Ok (v.0, e.1)) (t inner e.0 >>= λ v. Ok (v.0, e.1))
    (λ z m. z) (λ z m. behind_state s m)
    (bind-extends (R a) (R a) (p e.0) (t inner e.0) (λ v. Ok (v.0, e.1)) (λ v. Ok (v.0, e.1))
    (j a e.0) (λ x z m b r. (r, refl)) (λ v f. f)) (k a) (λ z m f. f))

pub some-extends : {M Z : Type 0} (R : List M → List Z → KnownState → Type 0) (bad : ValueFault)
    (q : Read ValueFault (List M)) (r : Read ValueFault (List Z × KnownState)) → ReadsLike R q r
    → ((ms : List M) (zs : List Z) (m : KnownState) → R ms zs m → is_nonempty ms ≡ is_nonempty zs)
    → ReadsLike R (q >>= λ x. if is_nonempty x.0 then Ok x else Err bad)
    (r >>= λ x. if is_nonempty x.0.0 then Ok x else Err bad)
some-extends {M} {Z} R bad q r j k =
    bind-extends R R q r (λ x. if is_nonempty x.0 then Ok x else Err bad)
    (λ x. if is_nonempty x.0.0 then Ok x else Err bad) j
    (λ x z m b h. choice x z m b h (is_nonempty x)
    (is_nonempty z) (k x z m h)) (λ v f. chosen-leads bad v (is_nonempty v.0.0) f)
  where
    choice : (x : List M) (z : List Z) (m : KnownState) (b : At) → R x z m → (c d : Bool) → c ≡ d
        → ReadsLike R (if c then Ok (x, b) else Err bad) (if d then Ok ((z, m), b) else Err bad)
    choice x z m b h true true e = (h, refl)
    choice x z m b h true false e = absurd cc
    choice x z m b h false true e = absurd cc
    choice x z m b h false false e = same refl

-- ---- items

pub grown-none : (s : KnownState) → s ≡ with_slots s []
grown-none s =
    ap (λ (t : List KnownSlot). record { base = s.base; table = t; linked = s.linked })
    (sym (append-nil s.table))

pub grown-twice : (s m n : KnownState) (first rest : List KnownSlot) → m ≡ with_slots s first
    → n ≡ with_slots m rest → n ≡ with_slots s (first ++ rest)
grown-twice s m n first rest e f =
    f ∙ ap (λ (x : KnownState). with_slots x rest) e
    ∙ ap (λ (t : List KnownSlot). record { base = s.base; table = t; linked = s.linked })
    (append_assoc s.table first rest)

pub grown-length : (s m : KnownState) (first : List KnownSlot) → m ≡ with_slots s first
    → length m.table ≡ length s.table + length first
grown-length s m first e = ap (λ (x : KnownState). length x.table) e ∙ length-append s.table first

module _ {M Z : Type 0} (code_of : M → TypeCode) (item_of : M → ℕ → Z)
    (L : TypeCode → ℕ → List KnownSlot → Type 0) where
  abbrev pub ItemIn : KnownState → M → Z → KnownState → Type 0
  ItemIn s m z new =
      (more : List KnownSlot) × (new ≡ with_slots s more) × (z ≡ item_of m (length s.table))
      × L (code_of m) (length s.table) more

  abbrev pub ItemsIn : KnownState → List M → List Z → KnownState → Type 0
  ItemsIn s ms zs new =
      (more : List KnownSlot) × (new ≡ with_slots s more)
      × AllLaid code_of item_of L (length s.table) ms zs more

  items-joined : (s : KnownState) (x : M × List M) (z : Z × List Z) (n : KnownState)
      → Both (ItemIn s) (λ x z m. ItemsIn m) x z n → ItemsIn s (x.0 ∷ x.1) (z.0 ∷ z.1) n
  items-joined s x z n (m, (first, e, named, laid), (rest, f, all)) = (
    first ++ rest,
    grown-twice s m n first rest e f,
    (
      first,
      rest,
      refl,
      named,
      laid,
      subst (λ (k : ℕ). AllLaid code_of item_of L k x.1 z.1 rest) (grown-length s m first e) all,
    ),
  )

  pub array-extends : (p : Format ValueFault M) (t : Sound ValueFault KnownNode Z)
      → ((s : KnownState) → ReadsAlike (ItemIn s) s p.reads t.format.reads)
      → KeepsLinked t.format.reads
      → (n : ℕ)
      → (s : KnownState) → ReadsAlike (ItemsIn s) s (array_format p n).reads
      (array t n).format.reads
  array-extends p t j l zero s a = (([], grown-none s, refl), refl)
  array-extends p t j l (suc n) s a =
      made-extends (Both (ItemIn s) (λ x z m. ItemsIn m)) (ItemsIn s) s (λ v. v.0 ∷ v.1)
      (λ v. v.0 ∷ v.1) (pair_on p.reads (λ _. (array_format p n).reads))
      (then_on t.format.reads (λ _. (array t n).format.reads))
      (pair-extends (ItemIn s) (λ x z m. ItemsIn m) s p.reads t.format.reads
      (λ _. (array_format p n).reads) (λ _. (array t n).format.reads) (j s)
      (λ x z m r. array-extends p t j l n m) (λ z. array-keeps t l n)) (items-joined s) a
