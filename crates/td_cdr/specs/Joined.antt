use Rattle.std.proofs.Common.{◌≡◌, ℕ, zero, suc, ◌+◌, ◌-◌, ◌^◌, ◌<◌, ◌≤◌, Bool, true, false, cond, ltb, List, [], ◌∷◌}
use Rattle.std.proofs.Common.{◌++◌, length, replicate, take, drop, Result, Ok, Err, refl, sym, ap, subst, add_assoc}
use Rattle.std.proofs.Common.{◌∙◌, append_assoc, arith, length-append}
use Rattle.std.proofs.lemmas.Bool.{ltb-false, le-ltb}
use Rattle.std.proofs.lemmas.List.{take_at, drop_at, take-append-drop, length-take, drop-take, drop-drop}
use Rattle.td_cdr.specs.declared.order.Order.{Order}
use Rattle.td_cdr.specs.declared.order.Order.TheVariants.{Big, Little}
use Rattle.td_cdr.specs.declared.fault.CdrFault.{CdrFault}
use Rattle.td_cdr.specs.declared.fault.CdrFault.TheVariants.{Short, TooLong}
use Rattle.td_cdr.specs.Truth.{order_of}
use Rattle.td_cdr.specs.Gap.{gap, bytes_of}
use Rattle.td_cdr.specs.Place.{At}
use Rattle.td_cdr.specs.Reading.{after, padding, next_aligned, number, ◌>>=◌, cell_at, number_at, octets_at}
use Rattle.td_cdr.specs.Reading.{encapsulation_at, inside, within}
use Rattle.td_cdr.specs.Spelling.{SpellsNumber, SpellsThen, SpellsOctets, SpellsWithin, IsFlag, FoundSpelling, Joins}
use Rattle.byteorder.specs.Numbers.{big_number-reads_back, little_number-reads_back}
use Rattle.byteorder.specs.Numbers.{length-bytes_high_first, length-bytes_low_first}
use Rattle.td_cdr.specs.Writing.{written_number, written_octets}
use Rattle.std.proofs.lemmas.List.{append-nil, length-replicate}

pub bind_ok : {F A B : Type 0} (r : Result A F) (f : A → Result B F) (y : B) → (r >>= f) ≡ Ok y
    → (x : A) × (r ≡ Ok x) × (f x ≡ Ok y)
bind_ok (Ok x) f y e = (x, refl, e)
bind_ok (Err d) f y e = absurd cc

pub guard_ok : {A : Type 0} (b : Bool) (d : CdrFault) (x y : A) → cond b (Err d) (Ok x) ≡ Ok y
    → (b ≡ false) × (x ≡ y)
guard_ok true d x y e = absurd cc
guard_ok false d x y e = (refl, cc)

abbrev pub done : {F A : Type 0} → A → Result A F
done x = Ok x

pub ok_is : {F A : Type 0} (x y : A) → done {F = F} x ≡ done y → x ≡ y
ok_is x y e = cc

pub number-found : (size : ℕ) (a : At) (v : ℕ) (next : At) → number_at size a ≡ Ok (v, next)
    → FoundSpelling (SpellsNumber size) a v next
unfolding number_at cell_at
number-found size a v next e =
    let p = padding size a in
    let cell = bind_ok (cell_at size a) (λ c. Ok (number a.order size c.0, c.1)) (v, next) e in
    let g =
    guard_ok (ltb (length a.rest) (p + size)) (Short (next_aligned size a))
    (take size (drop p a.rest), after (p + size) a) cell.0 cell.1 in
    let fits : p + size ≤ length a.rest = ltb-false _ _ g.0 in
    let len : length (take (p + size) a.rest)
    ≡ p + size = omega (arith, length-take (p + size) a.rest) in
    let made : ℕ × At = (v, next) in
    let both = ok_is (number a.order size cell.0.0, cell.0.1) made cell.2 in
    let v-is : number a.order size (take size (drop p a.rest)) ≡ v =
    ap (λ (c : List ℕ × At). number a.order size c.0) g.1 ∙ ap (λ (c : ℕ × At). c.0) both in
    let next-is : after (p + size) a ≡ next = ap (λ (c : List ℕ × At). c.1) g.1
    ∙ ap (λ (c : ℕ × At). c.1) both in
    record {
      bytes = take (p + size) a.rest;
      spelled = record { long = len; value = rw drop-take v-is };
      parts = rw (← next-is) (sym (take-append-drop (p + size) a.rest));
      moved = rw (len) (sym next-is);
    }

pub number-only : (size : ℕ) (a : At) (v : ℕ) (b rest : List ℕ)
    → SpellsNumber size a.order (a.place - a.origin) v b
    → a.rest ≡ b ++ rest → number_at size a ≡ Ok (v, after (length b) a)
unfolding number_at cell_at
number-only size a v b rest s e =
    let p = padding size a in
    let fits : ltb (length a.rest) (p + size) ≡ false =
    le-ltb _ _ (omega (arith, s.long, ap length e, length-append b rest)) in
    let front : take (p + size) a.rest ≡ b = rw e (take_at b rest (p + size) s.long) in
    let value : number a.order size (take size (drop p a.rest))
    ≡ v = rw (← drop-take p size a.rest, front) s.value in
    rw (fits, value, s.long) refl

pub number-joins : (size : ℕ) → Joins (SpellsNumber size) (number_at size)
number-joins size = record {
  found = λ a v next _ e. number-found size a v next e;
  only = λ a v b rest _ s e. number-only size a v b rest s e;
}

-- ---- two items

pub moved-place : (n : ℕ) (a : At) → a.origin ≤ a.place
    → (after n a).place - (after n a).origin ≡ (a.place - a.origin) + n
moved-place n a h = omega arith

-- what was moved over twice
pub after-after : (m n : ℕ) (a : At) → after n (after m a) ≡ after (m + n) a
after-after m n a = rw (drop-drop, add_assoc) refl

pub Found-then : {X Y : Type 0} (first : Order → ℕ → X → List ℕ → Type 0)
    (second : X → Order → ℕ → Y → List ℕ → Type 0) (a b c : At) (x : X) (y : Y)
    → a.origin ≤ a.place → FoundSpelling first a x b → FoundSpelling (second x) b y c
    → FoundSpelling (SpellsThen first second) a (x, y) c
Found-then first second a b c x y h f g =
    let place-is : b.place - b.origin ≡ (a.place - a.origin)
    + length f.bytes = rw f.moved (omega arith) in
    let order-is : b.order ≡ a.order = rw f.moved refl in
    let second-is : second x a.order ((a.place - a.origin) + length f.bytes) y g.bytes =
    rw (← order-is, ← place-is) g.spelled in
    record {
      bytes = f.bytes ++ g.bytes;
      spelled = record {
        front = f.bytes;
        back = g.bytes;
        parts = refl;
        spelled = f.spelled;
        then_spelled = second-is;
      };
      parts = f.parts ∙ ap (λ (r : List ℕ). f.bytes ++ r) g.parts
          ∙ sym (append_assoc f.bytes g.bytes c.rest);
      moved =
          g.moved ∙ ap (after (length g.bytes)) f.moved
          ∙ after-after (length f.bytes) (length g.bytes) a
          ∙ ap (λ (n : ℕ). after n a) (sym (length-append f.bytes g.bytes));
    }

-- ---- octets

octets-made : (a : At) (count : ℕ) (b : At) → count ≤ length b.rest
    → FoundSpelling (SpellsNumber 4) a count b → FoundSpelling SpellsOctets a (take count b.rest)
    (after count b)
octets-made a count b fits f =
    let len : length (take count b.rest) ≡ count = omega (arith, length-take count b.rest) in
    record {
      bytes = f.bytes ++ take count b.rest;
      spelled = record { count = f.bytes; counted = rw len f.spelled; parts = refl };
      parts =
          f.parts ∙ ap (λ (x : List ℕ). f.bytes ++ x) (sym (take-append-drop count b.rest))
          ∙ sym (append_assoc f.bytes (take count b.rest) (drop count b.rest));
      moved =
          ap (after count) f.moved ∙ after-after (length f.bytes) count a
          ∙ ap (λ (n : ℕ). after n a) (rw length-append (rw len refl));
    }

pub octets-found : (a : At) (v : List ℕ) (next : At) → a.origin ≤ a.place
    → octets_at a ≡ Ok (v, next) → FoundSpelling SpellsOctets a v next
unfolding octets_at
octets-found a v next h e =
    let n =
    bind_ok (number_at 4 a) (λ n.
    cond (ltb (length n.1.rest) n.0) (Err (TooLong (next_aligned 4 a)))
    (Ok (take n.0 n.1.rest, after n.0 n.1))) (v, next) e in
    let made : List ℕ × At = (v, next) in
    let g =
    guard_ok (ltb (length n.0.1.rest) n.0.0) (TooLong (next_aligned 4 a))
    (take n.0.0 n.0.1.rest, after n.0.0 n.0.1) made n.2 in
    subst (λ (p : List ℕ × At). FoundSpelling SpellsOctets a p.0 p.1) g.1
    (octets-made a n.0.0 n.0.1 (ltb-false _ _ g.0) (number-found 4 a n.0.0 n.0.1 n.1))

pub octets-only : (a : At) (v b rest : List ℕ) → a.origin ≤ a.place
    → SpellsOctets a.order (a.place - a.origin) v b
    → a.rest ≡ b ++ rest → octets_at a ≡ Ok (v, after (length b) a)
unfolding octets_at
octets-only a v b rest h s e =
    let whole : a.rest ≡ s.count ++ (v ++ rest) =
    e ∙ ap (λ (x : List ℕ). x ++ rest) s.parts ∙ append_assoc s.count v rest in
    let one : number_at 4 a ≡ Ok (length v, after (length s.count) a) =
    number-only 4 a (length v) s.count (v ++ rest) s.counted whole in
    let left : drop (length s.count) a.rest ≡ v ++ rest =
    rw whole (drop_at s.count (v ++ rest) (length s.count) refl) in
    let fits : ltb (length (drop (length s.count) a.rest)) (length v) ≡ false =
    rw left (le-ltb _ _ (omega (arith, length-append v rest))) in
    let here : take (length v) (drop (length s.count) a.rest)
    ≡ v = rw left (take_at v rest (length v) refl) in
    let len : length b ≡ length s.count + length v = rw s.parts (length-append s.count v) in
    rw (one, fits, here, after-after (length s.count) (length v) a, len) refl

pub octets-joins : Joins SpellsOctets octets_at
octets-joins = record { found = octets-found; only = octets-only }

-- ---- encapsulations

pub record IsInside (end : ℕ) (octets : List ℕ) (inner : At) : Type 0 where
  pub little : Bool
  pub flag : ℕ
  pub content : IsFlag little flag
  pub parts : octets ≡ flag ∷ inner.rest
  pub order_is : inner.order ≡ order_of little
  pub place_is : inner.place ≡ suc inner.origin

pub inside-found : (short end : ℕ) (octets : List ℕ) (inner : At) → length octets ≤ end
    → inside short end octets ≡ Ok inner → IsInside end octets inner
inside-found short end [] inner le e = absurd cc
inside-found short end (zero ∷ bs) inner le e =
    subst (λ (x : At). IsInside end (0 ∷ bs) x)
    (ok_is (record {
      rest = bs;
      place = end - length bs;
      origin = end - suc (length bs);
      order = Big;
    }) inner e) (record {
      little = false;
      flag = 0;
      content = refl;
      parts = refl;
      order_is = refl;
      place_is = omega arith;
    })
inside-found short end (suc zero ∷ bs) inner le e =
    subst (λ (x : At). IsInside end (1 ∷ bs) x)
    (ok_is (record {
      rest = bs;
      place = end - length bs;
      origin = end - suc (length bs);
      order = Little;
    }) inner e)
    (record {
      little = true;
      flag = 1;
      content = refl;
      parts = refl;
      order_is = refl;
      place_is = omega arith;
    })
inside-found short end (suc (suc n) ∷ bs) inner le e = absurd cc

pub inside-only : (short end flag : ℕ) (little : Bool) (bs : List ℕ) → IsFlag little flag
    → inside short end (flag ∷ bs)
    ≡ Ok (record {
      rest = bs;
      place = end - length bs;
      origin = end - suc (length bs);
      order = order_of little;
    })
inside-only short end flag false bs content = rw content refl
inside-only short end flag true bs content = rw content refl

pub within-made : {Y : Type 0} (inner : Order → ℕ → Y → List ℕ → Type 0) (a b x y : At)
    (octets : List ℕ) (v : Y)
    → FoundSpelling SpellsOctets a octets b → IsInside b.place octets x → FoundSpelling inner x v y
    → FoundSpelling (SpellsWithin inner) a v b
within-made inner a b x y octets v f i g =
    let one : x.place - x.origin ≡ 1 = omega (arith, i.place_is) in
    let spelled-in : inner (order_of i.little) 1 v g.bytes = rw (← i.order_is, ← one) g.spelled in
    let octets-are : octets ≡ i.flag ∷ (g.bytes ++ y.rest) = i.parts
    ∙ ap (λ (x : List ℕ). i.flag ∷ x) g.parts in
    let spelled-out : SpellsOctets a.order (a.place - a.origin)
    (i.flag ∷ (g.bytes ++ y.rest)) f.bytes =
    rw (← octets-are) f.spelled in
    record {
      bytes = f.bytes;
      spelled =
          record {
            little = i.little;
            flag = i.flag;
            body = g.bytes;
            ignored = y.rest;
            order_of_flag = i.content;
            octets = spelled-out;
            spelled = spelled-in;
          };
      parts = f.parts;
      moved = f.moved;
    }

within-found : {Y : Type 0} (inner : Order → ℕ → Y → List ℕ → Type 0)
    (reading : At → Result (Y × At) CdrFault)
    → Joins inner reading → (a : At) (v : Y) (next : At) → a.origin ≤ a.place → within reading a
    ≡ Ok (v, next) → FoundSpelling (SpellsWithin inner) a v next
unfolding encapsulation_at
within-found {Y = Y} inner reading j a v next h e =
    let made : Y × At = (v, next) in
    let enc = bind_ok (encapsulation_at a) (λ e. reading e.0 >>= λ v. Ok (v.0, e.1)) made e in
    let val = bind_ok (reading enc.0.0) (λ v. Ok (v.0, enc.0.1)) made enc.2 in
    let oct =
    bind_ok (octets_at a) (λ bytes. inside (next_aligned 4 a) bytes.1.place bytes.0 >>= λ inner.
    Ok (inner, bytes.1)) enc.0 enc.1 in
    let ins = bind_ok (inside (next_aligned 4 a) oct.0.1.place oct.0.0)
    (λ inner. Ok (inner, oct.0.1)) enc.0 oct.2 in
    let enc-is : (ins.0, oct.0.1) ≡ enc.0 = ok_is (ins.0, oct.0.1) enc.0 ins.2 in
    let f = octets-found a oct.0.0 oct.0.1 h oct.1 in
    let within-end : length oct.0.0 ≤ oct.0.1.place =
    omega (
      arith,
      ap (λ (x : At). x.place) f.moved,
      ap (length {A = ℕ}) f.spelled.parts,
      length-append f.spelled.count oct.0.0,
    ) in
    let i = inside-found (next_aligned 4 a) oct.0.1.place oct.0.0 ins.0 within-end ins.1 in
    let val-at : reading ins.0 ≡ Ok val.0 = ap (λ (p : At × At). reading p.0) enc-is ∙ val.1 in
    let g = j.found ins.0 val.0.0 val.0.1 (omega (arith, i.place_is)) val-at in
    let last : (val.0.0, oct.0.1) ≡ made =
    ◌∙◌ {b = (val.0.0, enc.0.1)} (ap (λ (p : At × At). (val.0.0, p.1)) enc-is)
    (ok_is (val.0.0, enc.0.1) made val.2) in
    let here : FoundSpelling (SpellsWithin inner) a val.0.0 oct.0.1 =
    within-made inner a oct.0.1 ins.0 val.0.1 oct.0.0 val.0.0 f i g in
    subst (λ (p : Y × At). FoundSpelling (SpellsWithin inner) a p.0 p.1) last here

within-only : {Y : Type 0} (inner : Order → ℕ → Y → List ℕ → Type 0)
    (reading : At → Result (Y × At) CdrFault)
    → Joins inner reading → (a : At) (v : Y) (b rest : List ℕ) → a.origin ≤ a.place
    → SpellsWithin inner a.order (a.place - a.origin) v b → a.rest ≡ b ++ rest
    → within reading a ≡ Ok (v, after (length b) a)
unfolding encapsulation_at
within-only {Y = Y} inner reading j a v b rest h s e =
    let body = s.body ++ s.ignored in
    let end = a.place + length b in
    let one = octets-only a (s.flag ∷ body) b rest h s.octets e in
    let two = inside-only (next_aligned 4 a) end s.flag s.little body s.order_of_flag in
    let long : length b ≡ length s.octets.count + suc (length body) =
    ap (length {A = ℕ}) s.octets.parts ∙ length-append s.octets.count (s.flag ∷ body) in
    let origin : (end - length body) - (end - suc (length body)) ≡ 1 = omega (arith, long) in
    let where-it-is : At =
    record {
      rest = body;
      place = end - length body;
      origin = end - suc (length body);
      order = order_of s.little;
    } in
    let spelled : inner where-it-is.order (where-it-is.place - where-it-is.origin)
    v s.body = rw origin s.spelled in
    let three = j.only where-it-is v s.body s.ignored (omega (arith, long)) spelled refl in
    rw (one, two, three) refl

pub within-joins : {Y : Type 0} (inner : Order → ℕ → Y → List ℕ → Type 0)
    (reading : At → Result (Y × At) CdrFault)
    → Joins inner reading → Joins (SpellsWithin inner) (within reading)
within-joins inner reading j = record {
  found = within-found inner reading j;
  only = within-only inner reading j;
}

-- ---- what is written has the spelling

pub length-bytes_of : (order : Order) (size v : ℕ) → length (bytes_of order size v) ≡ size
length-bytes_of Big size v = length-bytes_high_first size v
length-bytes_of Little size v = length-bytes_low_first 0 size v

number-bytes_of : (order : Order) (size v : ℕ) → v < 256 ^ size
    → number order size (bytes_of order size v) ≡ v
number-bytes_of Big size v lt =
    ap (number Big size) (sym (append-nil (bytes_of Big size v)))
    ∙ big_number-reads_back size v [] lt
number-bytes_of Little size v lt =
    ap (number Little size) (sym (append-nil (bytes_of Little size v)))
    ∙ little_number-reads_back size v [] lt

pub written_number-spelled : (size : ℕ) (order : Order) (place v : ℕ) → v < 256 ^ size
    → SpellsNumber size order place v (written_number size order place v)
written_number-spelled size order place v lt =
    let g = gap size place in
    let zeros : length (replicate g 0) ≡ g = length-replicate g 0 in
    record {
      long =
          length-append (replicate g 0) (bytes_of order size v)
          ∙ (let e : length (replicate g 0) + length (bytes_of order size v) ≡ g + size =
          omega (arith, zeros, length-bytes_of order size v) in
          e);
      value =
          ap (number order size) (drop_at (replicate g 0) (bytes_of order size v) g zeros)
          ∙ number-bytes_of order size v lt;
    }

pub written_octets-spelled : (order : Order) (place : ℕ) (v : List ℕ) → length v < 2 ^ 32
    → SpellsOctets order place v (written_octets order place v)
written_octets-spelled order place v lt = record {
  count = written_number 4 order place (length v);
  counted = written_number-spelled 4 order place (length v) lt;
  parts = refl;
}
