-- How the octets of a profile are put together.
use Rattle.std.proofs.Common.{◌≡◌, ◌≢◌, refl, ℕ, ◌+◌, ◌≤◌, List, [], ◌∷◌, ◌++◌, length, ap, sym, ◌∙◌, append_assoc, length-append}
use Rattle.std.proofs.lemmas.List.{append-nil}
use Rattle.std.proofs.lemmas.Bool.{ne_eqb}
use Rattle.td_cdr.specs.declared.order.Order.{Order}
use Rattle.td_cdr.specs.declared.order.Order.TheVariants.{Big}
use Rattle.td_cdr.specs.Gap.{flag}
use Rattle.td_cdr.specs.Format.{Piece, ◌then◌}
use Rattle.td_cdr.specs.Sound.{number, octets, text}
use Rattle.td_cdr.specs.Writing.{Draft, written_number, written_octets}
use Rattle.td_ior.specs.Profiles.{iiop_major, no_components, made_octets}

abbrev onto : List ℕ → Piece → List ℕ
onto b p = b ++ p Big (length b)

onto-then : (p q : Piece) (b : List ℕ) → onto b (p then q) ≡ onto (onto b p) q
onto-then p q b =
    rw (length-append b (p Big (length b)))
    (sym (append_assoc b (p Big (length b)) (q Big (length b + length (p Big (length b))))))

five_onto : (p q r s t : Piece) (b : List ℕ)
    → onto b (p then q then r then s then t) ≡ onto (onto (onto (onto (onto b p) q) r) s) t
five_onto p q r s t b =
    let c = onto b p in
    let d = onto c q in
    let e = onto d r in
    onto-then p (q then r then s then t) b ∙ onto-then q (r then s then t) c ∙ onto-then r (s then t) d
    ∙ onto-then s t e

abbrev pub Added : List ℕ → Draft → Draft → Type 0
Added more old new = (new.bytes ≡ old.bytes ++ more) × (new.order ≡ old.order) × (old.room ≤ new.room)

-- a writer in big order that holds these bytes
record Stands (w : Draft) (bytes : List ℕ) : Type 0 where
  bytes_are : w.bytes ≡ bytes
  order_is : w.order ≡ Big

stands-on : (p : Piece) (old new : Draft) (bytes : List ℕ) → Stands old bytes
    → Added (p old.order (length old.bytes)) old new → Stands new (onto bytes p)
stands-on p old new bytes s a = record {
  bytes_are =
      a.0 ∙ ap (λ (o : Order). old.bytes ++ p o (length old.bytes)) s.order_is
      ∙ ap (λ (b : List ℕ). onto b p) s.bytes_are;
  order_is = a.1 ∙ s.order_is;
}

pub profile-made : (host key : List ℕ) (port minor : ℕ) (w0 w1 w2 w3 w4 w5 w6 : Draft)
    → (w0.bytes ≡ flag Big ∷ []) × (w0.order ≡ Big)
    → Added (written_number 1 w0.order (length w0.bytes) iiop_major) w0 w1
    → Added (written_number 1 w1.order (length w1.bytes) minor) w1 w2
    → Added (written_octets w2.order (length w2.bytes) (host ++ 0 ∷ [])) w2 w3
    → Added (written_number 2 w3.order (length w3.bytes) port) w3 w4
    → Added (written_octets w4.order (length w4.bytes) key) w4 w5
    → Added (no_components minor w5.order (length w5.bytes)) w5 w6 → w6.bytes ≡ made_octets host port key minor
profile-made host key port minor w0 w1 w2 w3 w4 w5 w6 s a1 a2 a3 a4 a5 a6 =
    let p = (number 1).format.writes iiop_major in
    let q = (number 1).format.writes minor in
    let r = text.format.writes host in
    let t = (number 2).format.writes port in
    let u = octets.format.writes key in
    let start : List ℕ = flag Big ∷ [] in
    let s0 : Stands w0 start = record { bytes_are = s.0; order_is = s.1 } in
    let s1 = stands-on p w0 w1 start s0 a1 in
    let s2 = stands-on q w1 w2 (onto start p) s1 a2 in
    let s3 = stands-on r w2 w3 (onto (onto start p) q) s2 a3 in
    let s4 = stands-on t w3 w4 (onto (onto (onto start p) q) r) s3 a4 in
    let s5 = stands-on u w4 w5 (onto (onto (onto (onto start p) q) r) t) s4 a5 in
    let s6 = stands-on (no_components minor) w5 w6 (onto (onto (onto (onto (onto start p) q) r) t) u) s5 a6 in
    s6.bytes_are ∙ ap (λ (b : List ℕ). onto b (no_components minor)) (sym (five_onto p q r t u start))
    ∙ sym (onto-then (p then q then r then t then u) (no_components minor) start)

-- ---- no components

pub none_put : (minor : ℕ) (order : Order) (place : ℕ) → minor ≡ 0 → no_components minor order place ≡ []
none_put minor order place e = rw e refl

pub zero_put : (minor : ℕ) (order : Order) (place : ℕ) → minor ≢ 0
    → no_components minor order place ≡ written_number 4 order place 0
zero_put minor order place newer =
    rw (ne_eqb minor 0 newer) (append-nil (written_number 4 order place 0))
