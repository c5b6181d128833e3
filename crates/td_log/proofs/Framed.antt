-- A message that stands by itself, as a framer tells it that was fed it alone.
use Rattle.std.proofs.Common.{◌≡◌, ℕ, ◌+◌, ◌-◌, ◌<◌, ◌^◌, Bool, true, false, cond, nat_eq, nat_lt, min, ◌&&◌, List}
use Rattle.std.proofs.Common.{length, if◌then◌else◌, MatchOption}
use Rattle.std.proofs.Common.{take, Option, Some, None, Result, Ok, Err, IfOk, refl, sym, ap, subst, ◌∙◌, arith}
use Rattle.std.proofs.lemmas.Bool.Decides.{nat_tests}
use Rattle.std.proofs.lemmas.List.{length-take, take_all}
use Rattle.td_giop.specs.FramerLends.{IsRaw}
use Rattle.td_giop.specs.Header.{header_at}
use Rattle.td_giop.specs.Heads.{IsReadable}
use Rattle.td_giop.specs.Stream.{Stream, first_at, whole_within}
use Rattle.td_giop.specs.declared.fault.FrameFault.{FrameFault}
use Rattle.td_giop.specs.declared.header.Header.{Header}
use Rattle.td_giop.specs.declared.raw.Raw.{Raw}
use Rattle.td_ior.specs.Keys.{◌>>=◌}
use Rattle.td_log.specs.Messages.{header_of, if_alone, most, whole_in}

-- ---- what the framer found

module _ (s : Stream) where
  abbrev Front : Option Raw → Type 0
  Front o = MatchOption o (first_at s.limit s.rest ≡ Ok None) (λ m. IsRaw s m)

  pub found-one : (o : Option Raw) (m : Raw) → o ≡ Some m → Front o → IsRaw s m
  found-one o m e h = subst Front e h

  pub found-none : (o : Option Raw) → o ≡ None → Front o → first_at s.limit s.rest ≡ Ok None
  found-none o e h = subst Front e h

-- ---- none

no-message : (count : ℕ) (h : Result (Option Header) FrameFault) → whole_within count h ≡ Ok None
    → whole_in count h ≡ None
no-message count (Ok None) e = refl
no-message count (Err f) e = refl
no-message count (Ok (Some h)) e = short (nat_lt count (12 + h.size)) refl where
  short : (b : Bool) → nat_lt count (12 + h.size) ≡ b → whole_in count (Ok (Some h)) ≡ None
  short true l =
      let no : nat_eq count (12 + h.size) ≡ false = grind (arith, nat_tests, l) in
      ap (λ (b : Bool). cond b (Some h) None) no
  short false l =
      let there : whole_within count (Ok (Some h)) ≡ Ok (Some (12 + h.size)) =
      ap (λ (b : Bool). cond b (Ok None) (Ok (Some (12 + h.size)))) l in
      cc

bad-message : (count : ℕ) (h : Result (Option Header) FrameFault) (f : FrameFault) → whole_within count h ≡ Err f
    → whole_in count h ≡ None
bad-message count (Ok None) f e = cc
bad-message count (Err g) f e = refl
bad-message count (Ok (Some h)) f e = one (nat_lt count (12 + h.size)) refl where
  one : (b : Bool) → nat_lt count (12 + h.size) ≡ b → whole_in count (Ok (Some h)) ≡ None
  one true l =
      let there : whole_within count (Ok (Some h)) ≡ Ok None =
      ap (λ (b : Bool). cond b (Ok None) (Ok (Some (12 + h.size)))) l in
      cc
  one false l =
      let there : whole_within count (Ok (Some h)) ≡ Ok (Some (12 + h.size)) =
      ap (λ (b : Bool). cond b (Ok None) (Ok (Some (12 + h.size)))) l in
      cc

-- of what comes of a header, where there is none
abbrev kind-test : (kind : ℕ) → Header → Option Header
kind-test kind h = if nat_eq h.kind kind then Some h else None

module _ {A : Type 0} (kind : ℕ) (g : Header → Option A) (s : Stream) (limited : s.limit ≡ most) where
  pub none-alone : first_at s.limit s.rest ≡ Ok None → (header_of kind s.rest >>= g) ≡ None
  unfolding first_at header_of
  none-alone e =
      let at : whole_within (length s.rest) (header_at most s.rest) ≡ Ok None =
      subst (λ (n : ℕ). whole_within (length s.rest) (header_at n s.rest) ≡ Ok None) limited e in
      ap (λ (h : Option Header). (h >>= kind-test kind) >>= g) (no-message (length s.rest) (header_at most s.rest) at)

  pub bad-alone : (f : FrameFault) → first_at s.limit s.rest ≡ Err f → (header_of kind s.rest >>= g) ≡ None
  unfolding first_at header_of
  bad-alone f e =
      let at : whole_within (length s.rest) (header_at most s.rest) ≡ Err f =
      subst (λ (n : ℕ). whole_within (length s.rest) (header_at n s.rest) ≡ Err f) limited e in
      ap (λ (h : Option Header). (h >>= kind-test kind) >>= g)
      (bad-message (length s.rest) (header_at most s.rest) f at)

-- ---- a message

abbrev pub header_in : Raw → Header
header_in m = record { kind = m.kind; order = m.order; size = length m.bytes.now - 12; minor = m.minor }

module _ {A : Type 0} (kind : ℕ) (g : List ℕ → Header → Option A) (s : Stream) (m : Raw) (limited : s.limit ≡ most)
    (raw : IsRaw s m) where
  content : header_at most s.rest ≡ Ok (Some (header_in m))
  content = subst (λ (n : ℕ). header_at n s.rest ≡ Ok (Some (header_in m))) limited raw.header

  total : 12 + (length m.bytes.now - 12) ≡ length m.bytes.now
  total = let least = raw.least in omega (arith, least)

  by-kind : (b : Bool) → nat_eq m.kind kind ≡ b
      → ((if nat_eq m.kind kind then Some (header_in m) else None) >>= g m.bytes.now)
      ≡ (if nat_eq m.kind kind then g m.bytes.now (header_in m) else None)
  by-kind true e =
      ap (λ (b : Bool). (cond b (Some (header_in m)) None) >>= g m.bytes.now) e
      ∙ sym (ap (λ (b : Bool). cond b (g m.bytes.now (header_in m)) None) e)
  by-kind false e =
      ap (λ (b : Bool). (cond b (Some (header_in m)) None) >>= g m.bytes.now) e
      ∙ sym (ap (λ (b : Bool). cond b (g m.bytes.now (header_in m)) None) e)

  by-count : (b : Bool) → nat_eq (length s.rest) (length m.bytes.now) ≡ b
      → (header_of kind s.rest >>= g s.rest)
      ≡ (if nat_eq (length s.rest) (length m.bytes.now) && nat_eq m.kind kind then g m.bytes.now (header_in m)
      else None)
  unfolding header_of
  by-count true e =
      let same : length s.rest ≡ length m.bytes.now = grind (arith, nat_tests, e) in
      let all : s.rest ≡ m.bytes.now =
      sym (raw.bytes ∙ ap (λ (n : ℕ). take n s.rest) (sym same) ∙ take_all (length s.rest) s.rest (omega arith)) in
      ap (λ (h : Result (Option Header) FrameFault). (whole_in (length s.rest) h >>= kind-test kind) >>= g s.rest) content
      ∙ ap (λ (n : ℕ). ((cond (nat_eq (length s.rest) n) (Some (header_in m)) None) >>= kind-test kind) >>= g s.rest)
      total
      ∙ ap (λ (b : Bool). ((cond b (Some (header_in m)) None) >>= kind-test kind) >>= g s.rest) e
      ∙ ap (λ (r : List ℕ). (kind-test kind (header_in m)) >>= g r) all
      ∙ by-kind (nat_eq m.kind kind) refl
      ∙ sym (ap (λ (b : Bool). cond (b && nat_eq m.kind kind) (g m.bytes.now (header_in m)) None) e)
  by-count false e =
      ap (λ (h : Result (Option Header) FrameFault). (whole_in (length s.rest) h >>= kind-test kind) >>= g s.rest) content
      ∙ ap (λ (n : ℕ). ((cond (nat_eq (length s.rest) n) (Some (header_in m)) None) >>= kind-test kind) >>= g s.rest)
      total
      ∙ ap (λ (b : Bool). ((cond b (Some (header_in m)) None) >>= kind-test kind) >>= g s.rest) e
      ∙ sym (ap (λ (b : Bool). cond (b && nat_eq m.kind kind) (g m.bytes.now (header_in m)) None) e)

  -- it is what stands by itself exactly where nothing follows it
  pub alone-is : (count : ℕ) → count ≡ length s.rest
      → if_alone kind count m.kind m.bytes.now (g m.bytes.now (header_in m)) ≡ (header_of kind s.rest >>= g s.rest)
  alone-is count e =
      ap (λ (n : ℕ). if_alone kind n m.kind m.bytes.now (g m.bytes.now (header_in m))) e
      ∙ sym (by-count (nat_eq (length s.rest) (length m.bytes.now)) refl)

  pub readable : (count : ℕ) → count ≡ length s.rest → count < 2 ^ 32 → IsReadable m.bytes.now
  readable count e short =
      let cut : length m.bytes.now ≡ min (length m.bytes.now) (length s.rest) =
      ap length raw.bytes ∙ length-take (length m.bytes.now) s.rest in
      record { header = raw.least; places = omega (arith, cut, e, short) }

-- what was told of one is told of the other
pub content-as : {A E : Type 0} (r : Result (Option A) E) (x y : Option A) → x ≡ y → IfOk r (λ v. v ≡ x)
    → IfOk r (λ v. v ≡ y)
content-as {A = A} (Ok v) x y e h = h ∙ e
content-as (Err f) x y e h = tt
