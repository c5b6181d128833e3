-- References in their text forms, and how these are cut.
use Rattle.std.proofs.Common.{codes, ◌≡◌, ℕ, ◌^◌, ◌<◌, ◌||◌, Bool, true, false, nat_eq, List, [], ◌∷◌, ◌++◌, length}
use Rattle.std.proofs.Common.{take, drop, append_assoc, append-nil, subst, ◌⊎◌, inl, inr, Option, Some, None, Result}
use Rattle.std.proofs.Common.{Ok, Err, refl, sym, ap, ◌∙◌, arith, if◌then◌else◌}
use Rattle.std.specs.List.{list_any}
use Rattle.std.specs.Result.{result_ok, IfOk}
use Rattle.std.specs.Str.{bytes_eq}
use Rattle.std.proofs.lemmas.Bool.{eqb-true}
use Rattle.std.proofs.lemmas.List.{take-append-drop}
use Rattle.hex.specs.Hex.{decode_of, encode_lower, IsBytes}
use Rattle.hex.specs.declared.error.FromHexError.{FromHexError}
use Rattle.hex.proofs.HexLemmas.{decode_of-encode_lower}
use Rattle.td_cdr.specs.Text.{has_nul, HasNoNul}
use Rattle.td_typecode.specs.declared.reference.Ior.{Ior}
use Rattle.td_typecode.specs.declared.reference.Profile.{Profile}
use Rattle.td_typecode.specs.References.{reference}
use Rattle.td_ior.specs.Enclosed.{Encloses, enclosed_in, encapsulate_value}
use Rattle.td_ior.specs.Keys.{◌>>=◌}
use Rattle.td_ior.specs.Laws.{ReadsWhatIsSpelled}
use Rattle.td_ior.specs.Number.{port_of}
use Rattle.td_ior.specs.Profiles.{made_profile, made_reference}
use Rattle.td_ior.specs.Texts.{IsHexForm, IsPlainForm, IsReferenceText, HasNoComma, hex_form, cut_last, without_mark}
use Rattle.td_ior.specs.Texts.{IorParts}
use Rattle.td_ior.specs.Texts.{with_port, parts_of, plain_form, reference_in, printed_ior}
use Rattle.td_ior.proofs.Commas.{cut_last-none, cut_last-here, cut_last-append}
use Rattle.td_ior.proofs.Encapsulated.{enclosed-found, enclosed-only, enclosing-holds}
use Rattle.td_ior.proofs.Keys.{bind-Some, some-is, same-bytes}
use Rattle.td_ior.proofs.Numbers.{below-read, below-only}

or-false_left : (a b : Bool) → (a || b) ≡ false → a ≡ false
or-false_left true b e = e
or-false_left false b e = refl

or-false_right : (a b : Bool) → (a || b) ≡ false → b ≡ false
or-false_right true b e = absurd cc
or-false_right false b e = e

or-both_false : (a b : Bool) → a ≡ false → b ≡ false → (a || b) ≡ false
or-both_false a b e f = rw (e, f) refl

-- ---- the last comma

-- bytes without a comma have no cut
uncut : (bytes : List ℕ) → HasNoComma bytes → cut_last bytes ≡ None
unfolding cut_last
uncut [] h = refl
uncut (b ∷ bytes) h =
    let first : nat_eq b 44 ≡ false = or-false_left (nat_eq b 44) (list_any (λ x. nat_eq x 44) bytes) h in
    let rest : HasNoComma bytes = or-false_right (nat_eq b 44) (list_any (λ x. nat_eq x 44) bytes) h in
    cut_last-none b bytes first (uncut bytes rest)

-- the cut at the last comma
cut-at : (before after : List ℕ) → HasNoComma after → cut_last (before ++ 44 ∷ after) ≡ Some (before, after)
cut-at before after h =
    cut_last-append before (44 ∷ after) [] after (cut_last-here 44 after refl (uncut after h))
    ∙ ap (λ x. Some (x, after)) (append-nil before)

record IsCut (word before after : List ℕ) : Type 0 where
  whole : word ≡ before ++ 44 ∷ after
  last : HasNoComma after

-- bytes have no comma and no cut, or are cut at their last comma
abbrev CutOrNot : List ℕ → Type 0
CutOrNot bytes =
    ((cut_last bytes ≡ None) × HasNoComma bytes)
    ⊎ ((before : List ℕ) × (after : List ℕ) × (cut_last bytes ≡ Some (before, after)) × IsCut bytes before after)

cut-or_not_first : (b : ℕ) (bytes : List ℕ) (t : Bool) → nat_eq b 44 ≡ t → cut_last bytes ≡ None → HasNoComma bytes
    → CutOrNot (b ∷ bytes)
cut-or_not_first b bytes true e none rest =
    inr ([], bytes, cut_last-here b bytes e none, record { whole = ap (λ x. x ∷ bytes) (eqb-true b 44 e); last = rest })
cut-or_not_first b bytes false e none rest =
    inl (cut_last-none b bytes e none, or-both_false (nat_eq b 44) (list_any (λ x. nat_eq x 44) bytes) e rest)

cut-or_not_later : (b : ℕ) (bytes before after : List ℕ) → cut_last bytes ≡ Some (before, after)
    → IsCut bytes before after → CutOrNot (b ∷ bytes)
cut-or_not_later b bytes before after e cut =
    inr (
      b ∷ before,
      after,
      cut_last-append (b ∷ []) bytes before after e,
      record { whole = ap (λ x. b ∷ x) cut.whole; last = cut.last },
    )

cut-or_not : (bytes : List ℕ) → CutOrNot bytes
unfolding cut_last
cut-or_not [] = inl (refl, refl)
cut-or_not (b ∷ bytes) = elim (cut-or_not bytes) [
  | inl h ↦ cut-or_not_first b bytes (nat_eq b 44) refl h.0 h.1
  | inr h ↦ cut-or_not_later b bytes h.0 h.1 h.2 h.3
]

cut-Some : (word : List ℕ) (cut : List ℕ × List ℕ) → cut_last word ≡ Some cut → IsCut word cut.0 cut.1
cut-Some word cut e = elim (cut-or_not word) [
  | inl h ↦ absurd (cc h.0)
  | inr h ↦ subst (λ (c : List ℕ × List ℕ). IsCut word c.0 c.1) (some-is (h.0, h.1) cut (sym h.2 ∙ e)) h.3
]

-- ---- the form `ref:ID,HOST,PORT,KEY`

unmarked-test : (t : Bool) (text rest : List ℕ) → bytes_eq (take 4 text) (codes "ref:") ≡ t
    → (if t then Some (drop 4 text) else None) ≡ Some rest → text ≡ codes "ref:" ++ rest
unmarked-test true text rest e h =
    sym (take-append-drop 4 text) ∙ ap (λ x. x ++ drop 4 text) (same-bytes (take 4 text) (codes "ref:") e)
    ∙ ap (λ x. codes "ref:" ++ x) (some-is (drop 4 text) rest h)
unmarked-test false text rest e h = absurd cc

unmarked-Some : (text rest : List ℕ) → without_mark text ≡ Some rest → text ≡ codes "ref:" ++ rest
unmarked-Some text rest h = unmarked-test (bytes_eq (take 4 text) (codes "ref:")) text rest refl h

joined : (text rest a b id host port key : List ℕ) → text ≡ codes "ref:" ++ rest → rest ≡ a ++ 44 ∷ key
    → a ≡ b ++ 44 ∷ port → b ≡ id ++ 44 ∷ host → text ≡ codes "ref:" ++ (id ++ 44 ∷ (host ++ 44 ∷ (port ++ 44 ∷ key)))
joined text rest a b id host port key e f g h = rw (e, f, g, h) (simp append_assoc)

abbrev some_parts : IorParts → Option IorParts
some_parts p = Some p

record IsWithPort (first : List ℕ × List ℕ) (key : List ℕ) (port : ℕ) (parts : IorParts) : Type 0 where
  id_plain : HasNoNul first.0
  host_plain : HasNoNul first.1
  is : record { id = first.0; host = first.1; port = port; key = key } ≡ parts

with_port-at : (t : Bool) (first : List ℕ × List ℕ) (key : List ℕ) (port : ℕ) (parts : IorParts)
    → (has_nul first.0 || has_nul first.1) ≡ t
    → (if t then None else some_parts (record { id = first.0; host = first.1; port = port; key = key })) ≡ Some parts
    → IsWithPort first key port parts
with_port-at true first key port parts e h = absurd cc
with_port-at false first key port parts e h = record {
  id_plain = or-false_left (has_nul first.0) (has_nul first.1) e;
  host_plain = or-false_right (has_nul first.0) (has_nul first.1) e;
  is = some-is (record { id = first.0; host = first.1; port = port; key = key }) parts h;
}

abbrev with_first : List ℕ × List ℕ → List ℕ × List ℕ → List ℕ × List ℕ → Option IorParts
with_first last before first = port_of before.1 >>= with_port first last.1

abbrev with_before : List ℕ × List ℕ → List ℕ × List ℕ → Option IorParts
with_before last before = cut_last before.0 >>= with_first last before

abbrev with_last : List ℕ × List ℕ → Option IorParts
with_last last = cut_last last.0 >>= with_before last

abbrev with_rest : List ℕ → Option IorParts
with_rest rest = cut_last rest >>= with_last

parts-steps : (text : List ℕ) → parts_of text ≡ (without_mark text >>= with_rest)
unfolding parts_of
parts-steps text = refl

abbrev made_of : IorParts → Ior
made_of p = made_reference p.id p.host p.port p.key 0

parts-found : (text : List ℕ) (parts : IorParts) → parts_of text ≡ Some parts → IsPlainForm text (made_of parts)
parts-found text parts e =
    let rest = bind-Some (without_mark text) with_rest parts (sym (parts-steps text) ∙ e) in
    let last = bind-Some (cut_last rest.0) with_last parts rest.2 in
    let before = bind-Some (cut_last last.0.0) (with_before last.0) parts last.2 in
    let first = bind-Some (cut_last before.0.0) (with_first last.0 before.0) parts before.2 in
    let port = bind-Some (port_of before.0.1) (with_port first.0 last.0.1) parts first.2 in
    let ported = with_port-at (has_nul first.0.0 || has_nul first.0.1) first.0 last.0.1 port.0 parts refl port.2 in
    let at_last = cut-Some rest.0 last.0 last.1 in
    let at_before = cut-Some last.0.0 before.0 before.1 in
    let at_first = cut-Some before.0.0 first.0 first.1 in
    let made_as : made_of parts ≡ made_reference first.0.0 first.0.1 port.0 last.0.1 0 = ap made_of (sym ported.is) in
    record {
      id = first.0.0;
      host = first.0.1;
      port_word = before.0.1;
      port = port.0;
      key = last.0.1;
      whole =
          joined text rest.0 last.0.0 before.0.0 first.0.0 first.0.1 before.0.1 last.0.1
          (unmarked-Some text rest.0 rest.1) at_last.whole at_before.whole at_first.whole;
      in_host = at_first.last;
      in_port = at_before.last;
      in_key = at_last.last;
      id_plain = ported.id_plain;
      host_plain = ported.host_plain;
      number = below-read 65536 before.0.1 port.0 (omega arith) port.1;
      made = made_as;
    }

plain-found : (text : List ℕ) (r : Ior) → plain_form text ≡ Some r → IsPlainForm text r
plain-found text r e =
    let parts = bind-Some (parts_of text) (λ (p : IorParts). Some (made_of p)) r e in
    subst (IsPlainForm text) (some-is (made_of parts.0) r parts.2) (parts-found text parts.0 parts.1)

parts-only : (text : List ℕ) (r : Ior) (s : IsPlainForm text r)
    → parts_of text ≡ Some (record { id = s.id; host = s.host; port = s.port; key = s.key })
unfolding parts_of
parts-only text r s =
    let parted : text ≡ codes "ref:" ++ (((s.id ++ 44 ∷ s.host) ++ 44 ∷ s.port_word) ++ 44 ∷ s.key) =
    s.whole ∙ simp append_assoc in
    let last = cut-at ((s.id ++ 44 ∷ s.host) ++ 44 ∷ s.port_word) s.key s.in_key in
    let before = cut-at (s.id ++ 44 ∷ s.host) s.port_word s.in_port in
    let first = cut-at s.id s.host s.in_host in
    let port = below-only 65536 s.port_word s.port (omega arith) s.number in
    rw (parted, last, before, first, port, s.id_plain, s.host_plain) refl

plain-only : (text : List ℕ) (r : Ior) → IsPlainForm text r → plain_form text ≡ Some r
plain-only text r s = rw (parts-only text r s) (ap (λ (x : Ior). Some x) (sym s.made))

-- ---- the form of `IOR:` and digits

decoded-found : (r : Result (List ℕ) FromHexError) (octets : List ℕ) → result_ok r ≡ Some octets → r ≡ Ok octets
decoded-found (Ok x) octets e = ap (λ (y : List ℕ). Ok y) (some-is x octets e)
decoded-found (Err d) octets e = absurd cc

hex-found : (text digits : List ℕ) (r : Ior) → text ≡ codes "IOR:" ++ digits → hex_form digits ≡ Some r
    → IsHexForm text r
hex-found text digits r whole e =
    let b = bind-Some (result_ok (decode_of digits)) (enclosed_in reference) r e in
    record {
      digits = digits;
      octets = b.0;
      whole = whole;
      decoded = decoded-found (decode_of digits) b.0 b.1;
      holds = enclosed-found reference b.0 r b.2;
    }

hex-only : (digits octets : List ℕ) (r : Ior) → decode_of digits ≡ Ok octets → Encloses reference octets r
    → hex_form digits ≡ Some r
hex-only digits octets r e h =
    ap (λ (x : Result (List ℕ) FromHexError). result_ok x >>= enclosed_in reference) e
    ∙ enclosed-only reference octets r h

-- ---- both forms

text-found-at : (t : Bool) (text : List ℕ) (r : Ior) → bytes_eq (take 4 text) (codes "IOR:") ≡ t
    → (if t then hex_form (drop 4 text) else plain_form text) ≡ Some r → IsReferenceText text r
text-found-at true text r e h =
    let whole =
    sym (take-append-drop 4 text)
    ∙ ap (λ (x : List ℕ). x ++ drop 4 text) (same-bytes (take 4 text) (codes "IOR:") e) in
    IsReferenceText.hex (hex-found text (drop 4 text) r whole h)
text-found-at false text r e h = IsReferenceText.plain (plain-found text r h)

text-found : (text : List ℕ) (r : Ior) → reference_in text ≡ Some r → IsReferenceText text r
text-found text r e = text-found-at (bytes_eq (take 4 text) (codes "IOR:")) text r refl e

text-only : (text : List ℕ) (r : Ior) → IsReferenceText text r → reference_in text ≡ Some r
text-only text r (IsReferenceText.hex s) = ap reference_in s.whole ∙ hex-only s.digits s.octets r s.decoded s.holds
text-only text r (IsReferenceText.plain s) =
    let other : reference_in text ≡ plain_form text = ap reference_in s.whole ∙ sym (ap plain_form s.whole) in
    other ∙ plain-only text r s

pub texts-agree : ReadsWhatIsSpelled IsReferenceText reference_in
texts-agree = record { found = text-found; only = text-only }

pub printed-found : (r : Ior) → reference.format.admits r → IsBytes (encapsulate_value reference r)
    → length (encapsulate_value reference r) < 2 ^ 32 → reference_in (printed_ior r) ≡ Some r
printed-found r ok bytes short =
    hex-only (encode_lower (encapsulate_value reference r)) (encapsulate_value reference r) r
    (decode_of-encode_lower (encapsulate_value reference r) bytes)
    (enclosing-holds reference r ok short)

pub printed-back : {E : Type 0} (r : Ior) (octets : List ℕ) (result : Result (List ℕ) E)
    → IfOk result (λ t. t ≡ codes "IOR:" ++ encode_lower octets) → octets ≡ encapsulate_value reference r → IsBytes octets
    → length octets < 2 ^ 32 → IfOk result (λ t. reference.format.admits r → reference_in t ≡ Some r)
printed-back r octets (Ok t) e held bytes short = λ ok.
    let printed_is : t ≡ printed_ior r = e ∙ ap (λ (o : List ℕ). codes "IOR:" ++ encode_lower o) held in
    ap reference_in printed_is
    ∙ printed-found r ok (subst IsBytes held bytes) (subst (λ (o : List ℕ). length o < 2 ^ 32) held short)
printed-back r octets (Err d) e held bytes short = tt

-- a made reference has a spelling
pub made-admitted : (id host key : List ℕ) (port minor : ℕ) → HasNoNul id
    → reference.format.admits (made_reference id host port key minor)
made-admitted id host key port minor plain =
    let p : Profile = made_profile host port key minor in
    (plain, (omega arith, ((p, []), refl, ((omega arith, tt), refl))))
