-- Each way to build a format keeps the laws.
use Rattle.std.proofs.Common.{◌≡◌, ℕ, zero, suc, ◌+◌, ◌-◌, ◌^◌, ◌<◌, ◌≤◌, Bool, true, false, cond, IsTrue, List, []}
use Rattle.std.proofs.Common.{◌∷◌, ◌++◌, length, drop, map, Result, Ok, Err, refl, sym, ap, subst, ◌∙◌, append_assoc}
use Rattle.std.proofs.Common.{arith, length-append, add-zero}
use Rattle.std.proofs.lemmas.List.{drop_at, append-nil}
use Rattle.std.specs.Prelude.{Option, Some, None}
use Rattle.std.specs.Int.{Width}
use mir.Val.{bits}
use Rattle.std.specs.Str.{bytes_eq}
use Rattle.std.proofs.lemmas.Slice.Eq.{bytes_eq-Decides}
use Rattle.td_cdr.specs.declared.order.Order.{Order}
use Rattle.td_cdr.specs.declared.order.Order.TheVariants.{Big, Little}
use Rattle.td_cdr.specs.declared.fault.CdrFault.{CdrFault}
use Rattle.td_cdr.specs.Gap.{flag}
use Rattle.td_cdr.specs.Place.{At}
use Rattle.td_cdr.specs.Truth.{order_of}
use Rattle.td_cdr.specs.Reading.{after, next_aligned, octets_at, encapsulation_at, inside as inside_of}
use Rattle.td_cdr.specs.Spelling.{FoundSpelling, SpellsThen, SpellsWithin, SpellsOctets, IsText, closed, absent}
use Rattle.td_cdr.specs.Text.{HasNoNul}
use Rattle.td_cdr.specs.Writing.{written_number, written_octets}
use Rattle.td_cdr.specs.Joined.{number-joins, octets-joins, octets-found, octets-only, Found-then, moved-place}
use Rattle.td_cdr.specs.Joined.{after-after, within-made, inside-found, inside-only, written_number-spelled}
use Rattle.td_cdr.specs.Joined.{written_octets-spelled, bind_ok, done, ok_is}
use Rattle.td_cdr.specs.Found.{signed-joins, boolean-joins, string-joins}
use Rattle.td_cdr.specs.Written.{written_signed-spelled, written_boolean-spelled, written_string-spelled}
use Rattle.td_cdr.specs.Octets.{octets-front, octets-back, number-admitted, signed-admitted}
use Rattle.td_cdr.specs.Format.{Piece, row, none_or, ◌>>=◌, ◌then◌, Format, number, signed, boolean, octets, text}
use Rattle.td_cdr.specs.Format.{as_fault, with_fault, dependent_pair, ◌&◌, structure_format, variant_format}
use Rattle.td_cdr.specs.Format.{constant_format, placeholder_format, failure_format, union_format, restriction_format}
use Rattle.td_cdr.specs.Format.{or_fault, partial_format, nth, upwards, enumeration_format, value_named}
use Rattle.td_cdr.specs.Format.{encapsulation_format, uncons, array_format, other_writing, sequence_format}
use Rattle.td_cdr.specs.Lawful.{AreOctets, Lawful}

pub fault_ok : {E F A : Type 0} (c : E → F) (r : Result A E) (x : A) → as_fault c r ≡ Ok x
    → r ≡ Ok x
fault_ok c (Ok y) x e = cc
fault_ok c (Err d) x e = absurd cc

check_ok : {F A : Type 0} (b : Bool) (d : F) (x y : A) → cond b (done x) (Err d) ≡ Ok y → IsTrue b
    × (x ≡ y)
check_ok true d x y e = (refl, cc)
check_ok false d x y e = absurd cc

check_is : {F A : Type 0} (b : Bool) (d : F) (x : A) → IsTrue b → cond b (done x) (Err d) ≡ Ok x
check_is true d x t = refl
check_is false d x t = absurd cc

later : {Y : Type 0} (spells : Order → ℕ → Y → List ℕ → Type 0) (a : At) (v : Y) (b : At)
    → FoundSpelling spells a v b → a.origin ≤ a.place → b.origin ≤ b.place
later spells a v b f h = rw f.moved (omega arith)

-- ---- the primitives

pub number-lawful : (size : ℕ) → Lawful (number size)
number-lawful size = record {
  found = (number-joins size).found;
  only = (number-joins size).only;
  admitted = number-admitted size;
  written = λ order place v ok short. written_number-spelled size order place v ok;
}

pub signed-lawful : (width : Width) (size : ℕ) → 256 ^ size ≡ 2 ^ bits width
    → Lawful (signed width size)
signed-lawful width size same = record {
  found = (signed-joins width size).found;
  only = (signed-joins width size).only;
  admitted = signed-admitted width size (omega (arith, same));
  written = λ order place v ok short. written_signed-spelled width size order place v
      (omega (arith, same)) ok;
}

pub boolean-lawful : Lawful boolean
boolean-lawful = record {
  found = boolean-joins.found;
  only = boolean-joins.only;
  admitted = λ order place v b o s. tt;
  written = λ order place v ok short. written_boolean-spelled order place v;
}

pub octets-lawful : Lawful octets
octets-lawful = record {
  found = octets-joins.found;
  only = octets-joins.only;
  admitted = λ order place v b o s. tt;
  written =
      λ order place v ok short.
      written_octets-spelled order place v
      (omega (arith, short, length-append (written_number 4 order place (length v)) v));
}

text-clean : (v kept : List ℕ) → IsText v kept → HasNoNul v
text-clean v kept (closed free e) = free
text-clean v kept (absent e f) = rw e refl

pub text-lawful : Lawful text
text-lawful = record {
  found = string-joins.found;
  only = string-joins.only;
  admitted = λ order place v b o s. text-clean v s.kept s.text;
  written = λ order place v ok short.
      let bytes : List ℕ = v ++ 0 ∷ [] in
      written_string-spelled order place v ok
      (omega (
        arith,
        short,
        length-append (written_number 4 order place (length bytes)) bytes,
        length-append v (0 ∷ []),
      ));
}

-- ---- ways to build a format

pub with_fault-lawful : {E F Y : Type 0} (c : E → F) (g : Format E Y) → Lawful g
    → Lawful (with_fault c g)
with_fault-lawful c g l = record {
  found = λ a v next h e. l.found a v next h (fault_ok c (g.reads a) (v, next) e);
  only = λ a v b rest h s e. ap (as_fault c) (l.only a v b rest h s e);
  admitted = l.admitted;
  written = l.written;
}

pub other_writing-lawful : {F X : Type 0} (w : X → Piece) (g : Format F X) → Lawful g
    → ((x : X) (order : Order) (place : ℕ) → g.admits x → g.writes x order place ≡ w x order place)
    → Lawful (other_writing w g)
other_writing-lawful w g l same = record {
  found = l.found;
  only = l.only;
  admitted = l.admitted;
  written =
      λ order place v ok short. let e = same v order place ok in rw (← e)
      (l.written order place v ok (rw e short));
}

two-found : {F X Y : Type 0} (first : Format F X) (second : X → Format F Y) → Lawful first
    → ((x : X) → Lawful (second x)) → (a : At) (x : X × At) (y : Y × At) → a.origin ≤ a.place
    → first.reads a ≡ Ok x
    → (second x.0).reads x.1 ≡ Ok y → FoundSpelling (dependent_pair first second).spells a
    (x.0, y.0) y.1
two-found first second j k a x y h e d =
    let f = j.found a x.0 x.1 h e in
    let g = (k x.0).found x.1 y.0 y.1 (later first.spells a x.0 x.1 f h) d in
    Found-then first.spells (λ x. (second x).spells) a x.1 y.1 x.0 y.0 h f g

abbrev two_read : {F X Y : Type 0} → Format F X → (X → Format F Y) → At → X × Y → At → Type 0
two_read first second a v next =
    (mid : At) × (first.reads a ≡ Ok (v.0, mid)) × ((second v.0).reads mid ≡ Ok (v.1, next))

two-only : {F X Y : Type 0} (first : Format F X) (second : X → Format F Y) → Lawful first
    → ((x : X) → Lawful (second x)) → (a : At) (v : X × Y) (b rest : List ℕ) → a.origin ≤ a.place
    → SpellsThen first.spells (λ x. (second x).spells) a.order (a.place - a.origin) v b
    → a.rest ≡ b ++ rest → two_read first second a v (after (length b) a)
two-only first second j k a v b rest h s e =
    let whole : a.rest ≡ s.front ++ (s.back ++ rest) =
    e ∙ ap (λ (x : List ℕ). x ++ rest) s.parts ∙ append_assoc s.front s.back rest in
    let one = j.only a v.0 s.front (s.back ++ rest) h s.spelled whole in
    let left : drop (length s.front) a.rest ≡ s.back ++ rest =
    rw whole (drop_at s.front (s.back ++ rest) (length s.front) refl) in
    let here : (second v.0).spells a.order ((after (length s.front) a).place - a.origin)
    v.1 s.back =
    rw (moved-place (length s.front) a h) s.then_spelled in
    let two = (k v.0).only (after (length s.front) a) v.1 s.back rest (omega arith) here left in
    let len : length b ≡ length s.front + length s.back = rw s.parts (length-append s.front s.back)
    in (
      after (length s.front) a,
      one,
      rw (len) (two ∙ ap (λ (x : At). Ok (v.1, x))
          (after-after (length s.front) (length s.back) a)),
    )

both-admitted : {F X Y : Type 0} (first : Format F X) (second : X → Format F Y) → Lawful first
    → ((x : X) → Lawful (second x)) → (order : Order) (place : ℕ) (v : X × Y) (b : List ℕ)
    → AreOctets b
    → SpellsThen first.spells (λ x. (second x).spells) order place v b → first.admits v.0
    × (second v.0).admits v.1
both-admitted first second j k order place v b o s =
    let whole : AreOctets (s.front ++ s.back) = subst AreOctets s.parts o in (
      j.admitted order place v.0 s.front (octets-front s.front s.back whole) s.spelled,
      (k v.0).admitted order (place + length s.front) v.1 s.back (octets-back s.front s.back whole)
          s.then_spelled,
    )

both-written : {F X Y : Type 0} (first : Format F X) (second : X → Format F Y) → Lawful first
    → ((x : X) → Lawful (second x)) → (order : Order) (place : ℕ) (v : X × Y)
    → first.admits v.0 × (second v.0).admits v.1
    → length ((first.writes v.0 then (second v.0).writes v.1) order place) < 2 ^ 32
    → SpellsThen first.spells (λ x. (second x).spells) order place v
    ((first.writes v.0 then (second v.0).writes v.1) order place)
both-written first second j k order place v ok short =
    let front = first.writes v.0 order place in
    let back = (second v.0).writes v.1 order (place + length front) in
    let len = length-append front back in
    record {
      front = front;
      back = back;
      parts = refl;
      spelled = j.written order place v.0 ok.0 (omega (arith, short, len));
      then_spelled = (k v.0).written order (place + length front) v.1 ok.1
          (omega (arith, short, len));
    }

pair_on-found : {F X Y : Type 0} (first : Format F X) (second : X → Format F Y) → Lawful first
    → ((x : X) → Lawful (second x)) → (a : At) (v : X × Y) (next : At) → a.origin ≤ a.place
    → (dependent_pair first second).reads a ≡ Ok (v, next)
    → FoundSpelling (dependent_pair first second).spells a v next
pair_on-found {X = X} {Y = Y} first second j k a v next h e =
    let made-it : (X × Y) × At = (v, next) in
    let x = bind_ok (first.reads a) (λ x. (second x.0).reads x.1 >>= λ y. Ok ((x.0, y.0), y.1))
    made-it e in
    let y = bind_ok ((second x.0.0).reads x.0.1) (λ y. Ok ((x.0.0, y.0), y.1)) made-it x.2 in
    subst (λ (p : (X × Y) × At). FoundSpelling (dependent_pair first second).spells a p.0 p.1)
    (ok_is ((x.0.0, y.0.0), y.0.1) made-it y.2) (two-found first second j k a x.0 y.0 h x.1 y.1)

pub dependent_pair-lawful : {F X Y : Type 0} (first : Format F X) (second : X → Format F Y)
    → Lawful first → ((x : X) → Lawful (second x)) → Lawful (dependent_pair first second)
dependent_pair-lawful first second j k = record {
  found = pair_on-found first second j k;
  only = λ a v b rest h s e. let t = two-only first second j k a v b rest h s e in rw (t.1, t.2)
      refl;
  admitted = λ order place v b o s. both-admitted first second j k order place v b o s;
  written = λ order place v ok short. both-written first second j k order place v ok short;
}

infixr 5 ◌&&&◌
pub ◌&&&◌ : {F X Y : Type 0} {first : Format F X} {second : Format F Y} → Lawful first
    → Lawful second → Lawful (first & second)
j &&& k = dependent_pair-lawful _ _ j (λ _. k)

tagged-found : {F K Y : Type 0} (tag : Format F K) (tag_of : Y → K) (arm : K → Format F Y)
    → Lawful tag → ((k : K) → Lawful (arm k))
    → ((k : K) (order : Order) (place : ℕ) (y : Y) (b : List ℕ) → (arm k).spells order place y b
    → k ≡ tag_of y)
    → (a : At) (v : Y) (next : At) → a.origin ≤ a.place → (union_format tag tag_of arm).reads a
    ≡ Ok (v, next) → FoundSpelling (union_format tag tag_of arm).spells a v next
tagged-found {K = K} {Y = Y} tag tag_of arm j k content a v next h e =
    let made-it : Y × At = (v, next) in
    let x = bind_ok (tag.reads a) (λ x. (arm x.0).reads x.1) made-it e in
    let here = two-found tag arm j k a x.0 made-it h x.1 x.2 in
    let is : x.0.0 ≡ tag_of v =
    content x.0.0 a.order ((a.place - a.origin) + length here.spelled.front) v here.spelled.back
    here.spelled.then_spelled in
    record {
      bytes = here.bytes;
      spelled =
          subst
          (λ (k : K). SpellsThen tag.spells (λ k. (arm k).spells) a.order (a.place - a.origin)
          (k, v) here.bytes) is here.spelled;
      parts = here.parts;
      moved = here.moved;
    }

pub union_format-lawful : {F K Y : Type 0} (tag : Format F K) (tag_of : Y → K)
    (arm : K → Format F Y) → Lawful tag
    → ((k : K) → Lawful (arm k))
    → ((k : K) (order : Order) (place : ℕ) (y : Y) (b : List ℕ) → (arm k).spells order place y b
    → k ≡ tag_of y) → Lawful (union_format tag tag_of arm)
union_format-lawful tag tag_of arm j k content = record {
  found = tagged-found tag tag_of arm j k content;
  only = λ a v b rest h s e. let t = two-only tag arm j k a (tag_of v, v) b rest h s e in rw
      (t.1, t.2) refl;
  admitted = λ order place v b o s. both-admitted tag arm j k order place (tag_of v, v) b o s;
  written = λ order place v ok short. both-written tag arm j k order place (tag_of v, v) ok short;
}

made-found : {F X Y : Type 0} (to : X → Y) (from : Y → X) (g : Format F X) → Lawful g
    → ((x : X) → from (to x) ≡ x)
    → (a : At) (v : Y) (next : At) → a.origin ≤ a.place → (structure_format to from g).reads a
    ≡ Ok (v, next) → FoundSpelling (structure_format to from g).spells a v next
made-found {X = X} {Y = Y} to from g l back a v next h e =
    let made-it : Y × At = (v, next) in
    let x = bind_ok (g.reads a) (λ x. Ok (to x.0, x.1)) made-it e in
    let w = l.found a x.0.0 x.0.1 h x.1 in
    let here : FoundSpelling (structure_format to from g).spells a (to x.0.0) x.0.1 =
    record {
      bytes = w.bytes;
      spelled = subst (λ (z : X). g.spells a.order (a.place - a.origin) z w.bytes)
          (sym (back x.0.0)) w.spelled;
      parts = w.parts;
      moved = w.moved;
    } in
    subst (λ (p : Y × At). FoundSpelling (structure_format to from g).spells a p.0 p.1)
    (ok_is (to x.0.0, x.0.1) made-it x.2) here

pub structure_format-lawful : {F X Y : Type 0} (to : X → Y) (from : Y → X) (g : Format F X)
    → ((x : X) → from (to x) ≡ x) → ((y : Y) → to (from y) ≡ y) → Lawful g
    → Lawful (structure_format to from g)
structure_format-lawful {F = F} {Y = Y} to from g back forth l = record {
  found = made-found to from g l back;
  only =
      λ a v b rest h s e. rw (l.only a (from v) b rest h s e)
      (ap (λ (y : Y). done {F = F} (y, after (length b) a)) (forth v));
  admitted = λ order place v b o s. l.admitted order place (from v) b o s;
  written = λ order place v ok short. l.written order place (from v) ok short;
}

variant-found : {F X Y : Type 0} (to : X → Y) (from : Y → Option X) (g : Format F X) → Lawful g
    → (a : At) (v : Y) (next : At) → a.origin ≤ a.place → (variant_format to from g).reads a
    ≡ Ok (v, next) → FoundSpelling (variant_format to from g).spells a v next
variant-found {X = X} {Y = Y} to from g l a v next h e =
    let made-it : Y × At = (v, next) in
    let x = bind_ok (g.reads a) (λ x. Ok (to x.0, x.1)) made-it e in
    let w = l.found a x.0.0 x.0.1 h x.1 in
    subst (λ (p : Y × At). FoundSpelling (variant_format to from g).spells a p.0 p.1)
    (ok_is (to x.0.0, x.0.1) made-it x.2)
    (record {
      bytes = w.bytes;
      spelled = (x.0.0, refl, w.spelled);
      parts = w.parts;
      moved = w.moved;
    })

variant-written : {F X Y : Type 0} (to : X → Y) (from : Y → Option X) (g : Format F X) → Lawful g
    → (x : X) → from (to x) ≡ Some x → (order : Order) (place : ℕ) → g.admits x
    → length (none_or g.writes (from (to x)) order place) < 2 ^ 32
    → (variant_format to from g).spells order place (to x)
    (none_or g.writes (from (to x)) order place)
variant-written to from g l x back order place ok short =
    let e : none_or g.writes (from (to x)) order place ≡ g.writes x order place = rw back refl in
    (x, refl, rw e (l.written order place x ok (rw (← e) short)))

pub variant_format-lawful : {F X Y : Type 0} (to : X → Y) (from : Y → Option X) (g : Format F X)
    → ((x : X) → from (to x) ≡ Some x) → Lawful g → Lawful (variant_format to from g)
variant_format-lawful {F = F} {Y = Y} to from g back l = record {
  found = variant-found to from g l;
  only =
      λ a v b rest h s e. rw (l.only a s.0 b rest h s.2 e)
      (ap (λ (y : Y). done {F = F} (y, after (length b) a)) s.1);
  admitted = λ order place v b o s. (s.0, s.1, l.admitted order place s.0 b o s.2);
  written = λ order place v ok.
      subst (λ (y : Y). length (none_or g.writes (from y) order place) < 2 ^ 32
      → (variant_format to from g).spells order place y (none_or g.writes (from y) order place))
      ok.1
      (variant-written to from g l ok.0 (back ok.0) order place ok.2);
}

after-zero : (a : At) → after 0 a ≡ a
after-zero a =
    ap (λ (n : ℕ). record { rest = a.rest; place = n; origin = a.origin; order = a.order })
    (add-zero a.place)

pub constant_format-lawful : {F X : Type 0} (x : X) → Lawful (constant_format {F = F} x)
constant_format-lawful {F = F} {X = X} x = record {
  found =
      λ a v next h e. subst (λ (p : X × At). FoundSpelling (constant_format {F = F} x).spells a p.0
      p.1)
      (ok_is {F = F} (x, a) (v, next) e)
      (record { bytes = []; spelled = (refl, refl); parts = refl; moved = sym (after-zero a) });
  only = λ a v b rest h s e. rw (s.1, after-zero a) (ap (λ (y : X). done {F = F} (y, a)) s.0);
  admitted = λ order place v b o s. s.0;
  written = λ order place v ok short. (ok, refl);
}

skipped-found : {F X : Type 0} (x : X) (g : Format F X) → Lawful g → (a : At) (v : Unit {0})
    (next : At)
    → a.origin ≤ a.place → (placeholder_format x g).reads a ≡ Ok (v, next)
    → FoundSpelling (placeholder_format x g).spells a v next
skipped-found {F = F} x g l a v next h e =
    let made-it : Unit {0} × At = (v, next) in
    let y = bind_ok (g.reads a) (λ v. Ok (tt, v.1)) made-it e in
    let w = l.found a y.0.0 y.0.1 h y.1 in
    let is : y.0.1 ≡ next = ap (λ p. p.1) (ok_is {F = F} (tt, y.0.1) made-it y.2) in
    subst (λ (n : At). FoundSpelling (placeholder_format x g).spells a v n) is
    (record { bytes = w.bytes; spelled = (y.0.0, w.spelled); parts = w.parts; moved = w.moved })

pub placeholder_format-lawful : {F X : Type 0} (x : X) (g : Format F X) → g.admits x → Lawful g
    → Lawful (placeholder_format x g)
placeholder_format-lawful x g ok l = record {
  found = skipped-found x g l;
  only = λ a v b rest h s e. rw (l.only a s.0 b rest h s.1 e) refl;
  admitted = λ order place v b o s. tt;
  written = λ order place v u short. (x, l.written order place x ok short);
}

pub failure_format-lawful : {F X : Type 0} (bad : At → F) → Lawful (failure_format {X = X} bad)
failure_format-lawful bad = record {
  found = λ a v next h e. absurd cc;
  only = λ a v b rest h s e. absurd s;
  admitted = λ order place v b o s. absurd s;
  written = λ order place v ok short. absurd ok;
}

checked-found : {F X : Type 0} (ok : X → Bool) (bad : X → At → F) (g : Format F X) → Lawful g
    → (a : At) (v : X) (next : At) → a.origin ≤ a.place → (restriction_format ok bad g).reads a
    ≡ Ok (v, next) → FoundSpelling (restriction_format ok bad g).spells a v next
checked-found {X = X} ok bad g l a v next h e =
    let made-it : X × At = (v, next) in
    let x = bind_ok (g.reads a) (λ x. cond (ok x.0) (Ok x) (Err (bad x.0 a))) made-it e in
    let c = check_ok (ok x.0.0) (bad x.0.0 a) x.0 made-it x.2 in
    let w = l.found a x.0.0 x.0.1 h x.1 in
    subst (λ (p : X × At). FoundSpelling (restriction_format ok bad g).spells a p.0 p.1) c.1
    (record { bytes = w.bytes; spelled = (c.0, w.spelled); parts = w.parts; moved = w.moved })

pub restriction_format-lawful : {F X : Type 0} (ok : X → Bool) (bad : X → At → F) (g : Format F X)
    → Lawful g → Lawful (restriction_format ok bad g)
restriction_format-lawful ok bad g l = record {
  found = checked-found ok bad g l;
  only = λ a v b rest h s e. rw (l.only a v b rest h s.1 e)
      (check_is (ok v) (bad v a) (v, after (length b) a) s.0);
  admitted = λ order place v b o s. (s.0, l.admitted order place v b o s.1);
  written = λ order place v is short. (is.0, l.written order place v is.1 short);
}

refined_ok : {F Y : Type 0} (o : Option Y) (e : F) (next : At) (p : Y × At) → or_fault o e next
    ≡ Ok p → (o ≡ Some p.0) × (next ≡ p.1)
refined_ok {F = F} (Some y) e next p h =
    let is = ok_is {F = F} (y, next) p h in (ap (λ q. Some q.0) is, ap (λ q. q.1) is)
refined_ok None e next p h = absurd cc

refined-found : {F X Y : Type 0} (to : X → Option Y) (from : Y → X) (bad : X → At → F)
    (g : Format F X) → Lawful g
    → ((x : X) (y : Y) → to x ≡ Some y → from y ≡ x) → (a : At) (v : Y) (next : At)
    → a.origin ≤ a.place
    → (partial_format to from bad g).reads a ≡ Ok (v, next)
    → FoundSpelling (partial_format to from bad g).spells a v next
refined-found {X = X} {Y = Y} to from bad g l back a v next h e =
    let x = bind_ok (g.reads a) (λ x. or_fault (to x.0) (bad x.0 a) x.1) (v, next) e in
    let t = refined_ok (to x.0.0) (bad x.0.0 a) x.0.1 (v, next) x.2 in
    let w = l.found a x.0.0 x.0.1 h x.1 in
    record {
      bytes = w.bytes;
      spelled = subst (λ (z : X). g.spells a.order (a.place - a.origin) z w.bytes)
          (sym (back x.0.0 v t.0)) w.spelled;
      parts = subst (λ (n : At). a.rest ≡ w.bytes ++ n.rest) t.1 w.parts;
      moved = subst (λ (n : At). n ≡ after (length w.bytes) a) t.1 w.moved;
    }

pub partial_format-lawful : {F X Y : Type 0} (to : X → Option Y) (from : Y → X) (bad : X → At → F)
    (g : Format F X)
    → ((y : Y) → to (from y) ≡ Some y) → ((x : X) (y : Y) → to x ≡ Some y → from y ≡ x) → Lawful g
    → Lawful (partial_format to from bad g)
partial_format-lawful {F = F} {Y = Y} to from bad g forth back l = record {
  found = refined-found to from bad g l back;
  only = λ a v b rest h s e. rw (l.only a (from v) b rest h s e) (rw (forth v) refl);
  admitted = λ order place v b o s. l.admitted order place (from v) b o s;
  written = λ order place v ok short. l.written order place (from v) ok short;
}

nth-number : {Y : Type 0} (number_of : Y → ℕ) (ys : List Y) (k n : ℕ) (y : Y) → map number_of ys
    ≡ upwards k (length ys) → nth ys n ≡ Some y → number_of y ≡ k + n
nth-number number_of [] k n y e h = absurd cc
nth-number {Y = Y} number_of (z ∷ zs) k zero y e h =
    let is : z ≡ y = cc in let at : number_of z ≡ k = cc in sym (ap number_of is) ∙ at
    ∙ sym (add-zero k)
nth-number number_of (z ∷ zs) k (suc n) y e h =
    let rest : map number_of zs ≡ upwards (suc k) (length zs) = cc in
    let here = nth-number number_of zs (suc k) n y rest h in
    omega (arith, here)

pub enumeration_format-lawful : {F Y : Type 0} (ys : List Y) (number_of : Y → ℕ) (bad : ℕ → At → F)
    (g : Format F ℕ)
    → ((y : Y) → nth ys (number_of y) ≡ Some y) → map number_of ys ≡ upwards 0 (length ys)
    → Lawful g → Lawful (enumeration_format ys number_of bad g)
enumeration_format-lawful ys number_of bad g forth all l =
    partial_format-lawful (nth ys) number_of bad g forth
    (λ n y h. let here = nth-number number_of ys 0 n y all h in omega (arith, here)) l

named-at : {K : Type 0} (name_of : K → List ℕ) (k z : K) (name : List ℕ) (rest : Option K)
    (b : Bool)
    → b ≡ bytes_eq name (name_of k) → (rest ≡ Some z → name_of z ≡ name) → cond b (Some k) rest
    ≡ Some z → name_of z ≡ name
named-at name_of k z name rest true is later h =
    let same : k ≡ z = cc in sym ((bytes_eq-Decides name (name_of k)).0 (sym is) ∙ ap name_of same)
named-at name_of k z name rest false is later h = later h

pub value_named-name : {K : Type 0} (name_of : K → List ℕ) (ks : List K) (name : List ℕ) (k : K)
    → value_named name_of ks name ≡ Some k → name_of k ≡ name
value_named-name name_of [] name k h = absurd cc
value_named-name name_of (l ∷ ks) name k h =
    named-at name_of l k name (value_named name_of ks name) (bytes_eq name (name_of l)) refl
    (value_named-name name_of ks name k) h

-- ---- inside an encapsulation

inside-finds : {F Y : Type 0} (c : CdrFault → F) (g : Format F Y) → Lawful g
    → (a : At) (v : Y) (next : At)
    → a.origin ≤ a.place → (encapsulation_format c g).reads a ≡ Ok (v, next)
    → FoundSpelling (encapsulation_format c g).spells a v next
unfolding encapsulation_at
inside-finds {Y = Y} c g l a v next h e =
    let made-it : Y × At = (v, next) in
    let enc = bind_ok (as_fault c (encapsulation_at a)) (λ e. g.reads e.0 >>= λ v. Ok (v.0, e.1))
    made-it e in
    let val = bind_ok (g.reads enc.0.0) (λ v. Ok (v.0, enc.0.1)) made-it enc.2 in
    let oct =
    bind_ok (octets_at a)
    (λ bytes. inside_of (next_aligned 4 a) bytes.1.place bytes.0 >>= λ inner. Ok (inner, bytes.1))
    enc.0
    (fault_ok c _ enc.0 enc.1) in
    let ins = bind_ok (inside_of (next_aligned 4 a) oct.0.1.place oct.0.0)
    (λ inner. Ok (inner, oct.0.1)) enc.0 oct.2 in
    let enc-is : (ins.0, oct.0.1) ≡ enc.0 = ok_is (ins.0, oct.0.1) enc.0 ins.2 in
    let f = octets-found a oct.0.0 oct.0.1 h oct.1 in
    let within-end : length oct.0.0 ≤ oct.0.1.place =
    omega (
      arith,
      ap (λ (x : At). x.place) f.moved,
      ap (length {A = ℕ}) f.spelled.parts,
      length-append f.spelled.count oct.0.0,
    ) in
    let i = inside-found (next_aligned 4 a) oct.0.1.place oct.0.0 ins.0 within-end ins.1 in
    let val-at : g.reads ins.0 ≡ Ok val.0 = ap (λ (p : At × At). g.reads p.0) enc-is ∙ val.1 in
    let w = l.found ins.0 val.0.0 val.0.1 (omega (arith, i.place_is)) val-at in
    let last : (val.0.0, oct.0.1) ≡ made-it =
    ◌∙◌ {b = (val.0.0, enc.0.1)} (ap (λ (p : At × At). (val.0.0, p.1)) enc-is)
    (ok_is (val.0.0, enc.0.1) made-it val.2) in
    subst (λ (p : Y × At). FoundSpelling (encapsulation_format c g).spells a p.0 p.1) last
    (within-made g.spells a oct.0.1 ins.0 val.0.1 oct.0.0 val.0.0 f i w)

inside-only_reads : {F Y : Type 0} (c : CdrFault → F) (g : Format F Y) → Lawful g
    → (a : At) (v : Y) (b rest : List ℕ)
    → a.origin ≤ a.place → SpellsWithin g.spells a.order (a.place - a.origin) v b
    → a.rest ≡ b ++ rest → (encapsulation_format c g).reads a ≡ Ok (v, after (length b) a)
unfolding encapsulation_at
inside-only_reads {Y = Y} c g l a v b rest h s e =
    let body = s.body ++ s.ignored in
    let end = a.place + length b in
    let one = octets-only a (s.flag ∷ body) b rest h s.octets e in
    let two = inside-only (next_aligned 4 a) end s.flag s.little body s.order_of_flag in
    let long : length b ≡ length s.octets.count + suc (length body) =
    ap (length {A = ℕ}) s.octets.parts ∙ length-append s.octets.count (s.flag ∷ body) in
    let origin : (end - length body) - (end - suc (length body)) ≡ 1 = omega (arith, long) in
    let where-it-is : At =
    record {
      rest = body;
      place = end - length body;
      origin = end - suc (length body);
      order = order_of s.little;
    } in
    let spelled : g.spells where-it-is.order (where-it-is.place - where-it-is.origin)
    v s.body = rw origin s.spelled in
    let three = l.only where-it-is v s.body s.ignored (omega (arith, long)) spelled refl in
    rw (one, two, three) refl

enclosed-octets : (order : Order) (place : ℕ) (body : List ℕ)
    → length (written_octets order place (flag order ∷ body)) < 2 ^ 32
    → SpellsOctets order place (flag order ∷ (body ++ []))
    (written_octets order place (flag order ∷ body))
enclosed-octets order place body short =
    let octets : List ℕ = flag order ∷ body in
    let few : length octets < 2 ^ 32 =
    omega (arith, short, length-append (written_number 4 order place (length octets)) octets) in
    rw append-nil (written_octets-spelled order place octets few)

within-few : (order : Order) (place : ℕ) (body : List ℕ)
    → length (written_octets order place (flag order ∷ body)) < 2 ^ 32 → length body < 2 ^ 32
within-few order place body short =
    let octets : List ℕ = flag order ∷ body in
    let one : length octets ≡ suc (length body) = refl in
    omega (arith, short, one, length-append (written_number 4 order place (length octets)) octets)

inside-written : {F Y : Type 0} (c : CdrFault → F) (g : Format F Y) → Lawful g
    → (order : Order) (place : ℕ) (y : Y)
    → g.admits y → length ((encapsulation_format c g).writes y order place) < 2 ^ 32
    → (encapsulation_format c g).spells order place y
    ((encapsulation_format c g).writes y order place)
inside-written c g l Big place y ok short =
    record {
      little = false;
      flag = 0;
      body = g.writes y Big 1;
      ignored = [];
      order_of_flag = refl;
      octets = enclosed-octets Big place (g.writes y Big 1) short;
      spelled = l.written Big 1 y ok (within-few Big place (g.writes y Big 1) short);
    }
inside-written c g l Little place y ok short =
    record {
      little = true;
      flag = 1;
      body = g.writes y Little 1;
      ignored = [];
      order_of_flag = refl;
      octets = enclosed-octets Little place (g.writes y Little 1) short;
      spelled = l.written Little 1 y ok (within-few Little place (g.writes y Little 1) short);
    }

pub encapsulation_format-lawful : {F Y : Type 0} (c : CdrFault → F) (g : Format F Y) → Lawful g
    → Lawful (encapsulation_format c g)
encapsulation_format-lawful c g l = record {
  found = inside-finds c g l;
  only = inside-only_reads c g l;
  admitted = λ order place v b o s.
      let all : AreOctets (s.octets.count ++ (s.flag ∷ (s.body ++ s.ignored))) = subst AreOctets
      s.octets.parts o in
      let behind =
      octets-back (s.flag ∷ []) (s.body ++ s.ignored)
      (octets-back s.octets.count (s.flag ∷ (s.body ++ s.ignored)) all) in
      l.admitted (order_of s.little) 1 v s.body (octets-front s.body s.ignored behind) s.spelled;
  written = inside-written c g l;
}

-- ---- sequences

pub array_format-lawful : {F X : Type 0} (g : Format F X) → Lawful g → (n : ℕ)
    → Lawful (array_format g n)
array_format-lawful g l zero = constant_format-lawful []
array_format-lawful g l (suc n) =
    variant_format-lawful (λ p. p.0 ∷ p.1) uncons (g & array_format g n) (λ x. refl)
    (dependent_pair-lawful g (λ _. array_format g n) l (λ _. array_format-lawful g l n))

pub times-length : {F X : Type 0} (g : Format F X) (n : ℕ) (order : Order) (place : ℕ) (xs : List X)
    (b : List ℕ)
    → (array_format g n).spells order place xs b → n ≡ length xs
times-length {X = X} g zero order place xs b s = ap (length {A = X}) s.0
times-length {X = X} g (suc n) order place xs b s =
    ap suc (times-length g n order (place + length s.2.front) s.0.1 s.2.back s.2.then_spelled)
    ∙ ap (length {A = X}) s.1

pub times-row : {F X : Type 0} (g : Format F X) (xs : List X) (order : Order) (place : ℕ)
    → (array_format g (length xs)).writes xs order place ≡ row (map g.writes xs) order place
times-row g [] order place = refl
times-row g (x ∷ xs) order place =
    ap (λ (b : List ℕ). g.writes x order place ++ b)
    (times-row g xs order (place + length (g.writes x order place)))

pub sequence_format-lawful : {F X : Type 0} (c : CdrFault → F) (g : Format F X) → Lawful g
    → Lawful (sequence_format c g)
sequence_format-lawful c g l =
    other_writing-lawful _ (union_format (with_fault c (number 4)) length (array_format g))
    (union_format-lawful (with_fault c (number 4)) length (array_format g)
    (with_fault-lawful c (number 4) (number-lawful 4)) (array_format-lawful g l) (times-length g))
    (λ xs order place ok. let count = (number 4).writes (length xs) order place in
    ap (λ (b : List ℕ). count ++ b) (times-row g xs order (place + length count)))

-- ---- what follows of each format

-- what is written for an admitted value is read back, whatever follows
pub reads_back : {F Y : Type 0} (f : Format F Y) → Lawful f → (y : Y) (a : At) (rest : List ℕ)
    → f.admits y → a.origin ≤ a.place → length (f.writes y a.order (a.place - a.origin)) < 2 ^ 32
    → a.rest ≡ f.writes y a.order (a.place - a.origin) ++ rest
    → f.reads a ≡ Ok (y, after (length (f.writes y a.order (a.place - a.origin))) a)
reads_back f l y a rest ok h short e = l.only a y _ rest h
    (l.written a.order (a.place - a.origin) y ok short) e

-- what is read is admitted
pub read-admitted : {F Y : Type 0} (f : Format F Y) → Lawful f → (a : At) (v : Y) (next : At)
    → a.origin ≤ a.place → AreOctets a.rest → f.reads a ≡ Ok (v, next) → f.admits v
read-admitted f l a v next h o e =
    let w = l.found a v next h e in
    l.admitted a.order (a.place - a.origin) v w.bytes
    (octets-front w.bytes next.rest (subst AreOctets w.parts o)) w.spelled
