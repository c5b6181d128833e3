-- The laws of every item, from those of its parts.
use Rattle.std.proofs.Common.{◌≡◌, ℕ, ◌-◌, ◌≤◌, List, ◌++◌, length, Result, Ok, Err, refl, sym, ap, subst, ◌∙◌, arith}
use Rattle.std.specs.Int.{w16, w32, w64}
use Rattle.td_cdr.specs.declared.order.Order.{Order}
use Rattle.td_cdr.specs.declared.fault.CdrFault.{CdrFault}
use Rattle.td_cdr.specs.declared.fault.CdrFault.TheVariants.{Memory}
use Rattle.td_cdr.specs.Place.{At}
use Rattle.td_cdr.specs.Reading.{after, ◌>>=◌, encapsulation_at, within}
use Rattle.td_cdr.specs.Format.{as_fault}
use Rattle.td_cdr.specs.Spelling.{Joins}
use Rattle.td_cdr.specs.Faults.{NumberFault, BooleanFault, OctetsFault, StringFault, WithinFault, ThenFault, within_at}
use Rattle.td_cdr.specs.Faults.{Refuses}
use Rattle.td_cdr.specs.Items.{Item, octet, ushort, ulong, ulonglong, short, long, longlong, boolean, string, octets}
use Rattle.td_cdr.specs.Items.{pair, encapsulated, ValueOf, Spells, reading, read_then, IsFaulty}
use Rattle.td_cdr.specs.Joined.{number-joins, octets-joins, within-joins, ok_is}
use Rattle.td_cdr.specs.Found.{signed-joins, boolean-joins, string-joins, then-joins}
use Rattle.td_cdr.specs.Refused.{number-refuses, signed-refuses, boolean-refuses, string-refuses, octets-refuses}
use Rattle.td_cdr.specs.Refused.{pair-refuses, within-refuses, same-refuses, both_read, enclosed_read}

pub item-joins : (item : Item) → Joins (Spells item) (reading item)
item-joins octet = number-joins 1
item-joins ushort = number-joins 2
item-joins ulong = number-joins 4
item-joins ulonglong = number-joins 8
item-joins short = signed-joins w16 2
item-joins long = signed-joins w32 4
item-joins longlong = signed-joins w64 8
item-joins boolean = boolean-joins
item-joins string = string-joins
item-joins octets = octets-joins
item-joins (pair first second) =
    then-joins (Spells first) (λ _. Spells second) (reading first) (λ _. reading second) (item-joins first)
    (λ _. item-joins second)
item-joins (encapsulated inner) = within-joins (Spells inner) (reading inner) (item-joins inner)

-- an item's readings are those of the laws
bind-same : {A B : Type 0} (r : Result A CdrFault) (f g : A → Result B CdrFault) → ((x : A) → f x ≡ g x)
    → (r >>= f) ≡ (r >>= g)
bind-same (Ok x) f g same = same x
bind-same (Err e) f g same = refl

fault-same : {A B : Type 0} (r : Result A CdrFault) (f g : A → Result B CdrFault) → ((x : A) → f x ≡ g x)
    → (as_fault (λ (f : CdrFault). f) r >>= f) ≡ (r >>= g)
fault-same (Ok x) f g same = same x
fault-same (Err e) f g same = refl

pair-same : {X Y : Type 0} (first : At → Result (X × At) CdrFault) (second : At → Result (Y × At) CdrFault) (a : At)
    → both_read first (λ _. second) a ≡ read_then first (λ _. second) a
pair-same first second a = bind-same (first a) _ _ (λ x. bind-same (second x.1) _ _ (λ y. refl))

within-same : {X : Type 0} (inner : At → Result (X × At) CdrFault) (a : At)
    → enclosed_read (λ f. f) inner a ≡ within inner a
within-same inner a = fault-same (encapsulation_at a) _ _ (λ e. bind-same (inner e.0) _ _ (λ v. refl))

pub item-refuses : (item : Item) → Refuses (IsFaulty item) (reading item)
item-refuses octet = number-refuses 1
item-refuses ushort = number-refuses 2
item-refuses ulong = number-refuses 4
item-refuses ulonglong = number-refuses 8
item-refuses short = signed-refuses w16 2
item-refuses long = signed-refuses w32 4
item-refuses longlong = signed-refuses w64 8
item-refuses boolean = boolean-refuses
item-refuses string = string-refuses
item-refuses octets = octets-refuses
item-refuses (pair first second) =
    same-refuses (IsFaulty (pair first second)) (both_read (reading first) (λ _. reading second))
    (reading (pair first second)) (pair-same (reading first) (reading second))
    (pair-refuses (Spells first) (IsFaulty first) (λ _. IsFaulty second) (reading first) (λ _. reading second)
    (item-joins first) (item-refuses first) (λ _. item-refuses second))
item-refuses (encapsulated inner) =
    same-refuses (IsFaulty (encapsulated inner)) (enclosed_read (λ f. f) (reading inner)) (reading (encapsulated inner))
    (within-same (reading inner))
    (within-refuses (λ f. f) (IsFaulty inner) (reading inner) (item-refuses inner))

-- bytes that begin with a spelling of v are read as v at that place
read-as : (item : Item) (order : Order) (place : ℕ) (v : ValueOf item) (b more bytes : List ℕ)
    → Spells item order place v b → bytes ≡ b ++ more
    → reading item (record { rest = bytes; place = place; origin = 0; order = order })
    ≡ Ok (v, after (length b) (record { rest = bytes; place = place; origin = 0; order = order }))
read-as item order place v b more bytes s e =
    let a : At = record { rest = bytes; place = place; origin = 0; order = order } in
    let from_start : place - 0 ≡ place = omega arith in
    let spelled : Spells item order (place - 0) v b = rw from_start s in
    (item-joins item).only a v b more (omega arith) spelled e

pub one-value : (item : Item) (order : Order) (place : ℕ) (v w : ValueOf item) (b c more others : List ℕ)
    → Spells item order place v b → Spells item order place w c → b ++ more ≡ c ++ others → v ≡ w
one-value item order place v w b c more others s t e =
    let a : At = record { rest = b ++ more; place = place; origin = 0; order = order } in
    let same : (v, after (length b) a) ≡ (w, after (length c) a) =
    ok_is (v, after (length b) a) (w, after (length c) a)
    (sym (read-as item order place v b more (b ++ more) s refl)
    ∙ read-as item order place w c others (b ++ more) t e) in
    ap (λ (p : ValueOf item × At). p.0) same

-- ---- no reading runs out of memory

pub number-takes_none : (size : ℕ) (a : At) → NumberFault size a Memory → ⊥
number-takes_none size a n = cc n.fault

pub octets-takes_none : (a : At) → OctetsFault a Memory → ⊥
octets-takes_none a (OctetsFault.cut n) = number-takes_none 4 a n
octets-takes_none a (OctetsFault.above count next found past fault) = cc fault

pub boolean-takes_none : (a : At) → BooleanFault a Memory → ⊥
boolean-takes_none a (BooleanFault.cut n) = number-takes_none 1 a n
boolean-takes_none a (BooleanFault.above byte next found past fault) = cc fault

pub string-takes_none : (a : At) → StringFault a Memory → ⊥
string-takes_none a (StringFault.octets o) = octets-takes_none a o
string-takes_none a (StringFault.unclosed kept next found some not_closed fault) = cc fault

within-takes_none : (inner : At → CdrFault → Type 0) → ((a : At) → inner a Memory → ⊥) → (a : At)
    → WithinFault (λ f. f) inner a Memory → ⊥
within-takes_none inner none a (WithinFault.octets o) =
    octets-takes_none a (subst (λ (e : CdrFault). OctetsFault a e) (sym o.fault) o.holds)
within-takes_none inner none a (WithinFault.empty next found fault) = cc fault
within-takes_none inner none a (WithinFault.order flag body next found above fault) = cc fault
within-takes_none inner none a (WithinFault.inside little flag body next found content d) =
    none (within_at a little body) d

then-takes_none : {X : Type 0} (spells : Order → ℕ → X → List ℕ → Type 0) (first : At → CdrFault → Type 0)
    (second : X → At → CdrFault → Type 0)
    → ((a : At) → first a Memory → ⊥) → ((v : X) (a : At) → second v a Memory → ⊥) → (a : At)
    → ThenFault spells first second a Memory → ⊥
then-takes_none spells first second one two a (ThenFault.first d) = one a d
then-takes_none spells first second one two a (ThenFault.second v next found d) = two v next d

item-takes_none : (item : Item) (a : At) → IsFaulty item a Memory → ⊥
item-takes_none octet = number-takes_none 1
item-takes_none ushort = number-takes_none 2
item-takes_none ulong = number-takes_none 4
item-takes_none ulonglong = number-takes_none 8
item-takes_none short = number-takes_none 2
item-takes_none long = number-takes_none 4
item-takes_none longlong = number-takes_none 8
item-takes_none boolean = boolean-takes_none
item-takes_none string = string-takes_none
item-takes_none octets = octets-takes_none
item-takes_none (pair first second) =
    then-takes_none (Spells first) (IsFaulty first) (λ _. IsFaulty second) (item-takes_none first)
    (λ _. item-takes_none second)
item-takes_none (encapsulated inner) = within-takes_none (IsFaulty inner) (item-takes_none inner)

pub takes-no-memory : (item : Item) (a : At) → a.origin ≤ a.place → reading item a ≡ Err Memory → ⊥
takes-no-memory item a h e = item-takes_none item a ((item-refuses item).content a Memory h e)
