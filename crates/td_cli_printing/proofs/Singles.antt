-- What is printed of a single value that a text spells.
use Rattle.std.proofs.Common.{◌≡◌, ◌∙◌, ◌≤◌, ◌^◌, ◌+◌, ◌-◌, ℕ, zero, suc, Bool, true, false, cond, List, [], ◌∷◌, ◌++◌}
use Rattle.std.proofs.Common.{Option, Some, None, refl, sym, ap, subst, arith, if◌then◌else◌}
use Rattle.std.proofs.Math.Dec.{eqb-suc-zero}
use Rattle.std.specs.Prelude.{ℤ, pos, negsuc, codes, decimal, option_map}
use Rattle.std.specs.Fmt.{signed_decimal}
use Rattle.std.specs.Str.{bytes_eq}
use Rattle.std.proofs.lemmas.Slice.Eq.{bytes_eq-Decides}
use Rattle.td_cdr.specs.Text.{has_nul}
use Rattle.td_typecode.specs.Labels.{ValueLayer}
use Rattle.td_typecode.specs.Layers.{value-short, value-long, value-ushort, value-ulong, value-boolean, value-char}
use Rattle.td_typecode.specs.Layers.{value-octet, value-longlong, value-ulonglong, value-str}
use Rattle.td_typecode.specs.declared.code.TypeCode.TheOpen as c
use Rattle.td_typecode.specs.declared.code.Value.{Value, out-Value}
use Rattle.td_typecode.specs.declared.code.Value.TheVariants as value
use Rattle.td_forms.specs.Numbers.{minus, negative, positive, signed_below}
use Rattle.td_forms.specs.Values.{boolean_value, char_value, item_value, string_value}
use Rattle.td_forms.specs.Words.{truth_named}
use Rattle.td_forms.specs.declared.item.ItemType.{ItemType}
use Rattle.td_forms.specs.declared.item.ItemType.TheVariants as item
use Rattle.td_ior.specs.Keys.{◌>>=◌}
use Rattle.td_ior.specs.Number.{number_below}
use Rattle.td_ior.proofs.Numbers.{below-read}
use Rattle.td_cli_printing.specs.Values.{truth_text}

-- ---- what was found

pub same : {A : Type 0} (a b : A) → Some a ≡ Some b → a ≡ b
same a b e = cc

pub mapped : {A B : Type 0} (f : A → B) (o : Option A) (y : B) → option_map f o ≡ Some y
    → (a : A) × (o ≡ Some a) × (f a ≡ y)
mapped f (Some a) y e = (a, refl, same (f a) y e)
mapped f None y e = absurd cc

pub bound : {A B : Type 0} (o : Option A) (f : A → Option B) (y : B) → (o >>= f) ≡ Some y
    → (a : A) × (o ≡ Some a) × (f a ≡ Some y)
bound (Some a) f y e = (a, refl, e)
bound None f y e = absurd cc

-- ---- a text for each single value

pub record Texts (f : ValueLayer → List ℕ) : Type 0 where
  pub short : (z : ℤ) → f (c.Value::Short z) ≡ signed_decimal z
  pub long : (z : ℤ) → f (c.Value::Long z) ≡ signed_decimal z
  pub long_long : (z : ℤ) → f (c.Value::LongLong z) ≡ signed_decimal z
  pub u_short : (n : ℕ) → f (c.Value::UShort n) ≡ decimal n
  pub u_long : (n : ℕ) → f (c.Value::ULong n) ≡ decimal n
  pub u_long_long : (n : ℕ) → f (c.Value::ULongLong n) ≡ decimal n
  pub octet : (n : ℕ) → f (c.Value::Octet n) ≡ decimal n
  pub char : (b : ℕ) → f (c.Value::Char b) ≡ b ∷ []
  pub boolean : (b : Bool) → f (c.Value::Boolean b) ≡ truth_text b
  pub string : (t : List ℕ) → f (c.Value::Str t) ≡ t

-- ---- numbers

unsigned : (f : ValueLayer → List ℕ) (make : ℕ → Value) (limit : ℕ) (text : List ℕ) (v : Value)
    → ((n : ℕ) → f (out-Value (make n)) ≡ decimal n) → limit ≤ 2 ^ 64
    → option_map make (number_below limit text) ≡ Some v → f (out-Value v) ≡ text
unsigned f make limit text v shows low e =
    let m = mapped make (number_below limit text) v e in
    subst (λ (x : Value). f (out-Value x) ≡ text) m.2
    (shows m.0 ∙ sym (below-read limit text m.0 low m.1).printed)

abbrev minus_at : ℕ → Bool → Option ℤ
minus_at n is_zero = if is_zero then None else Some (negsuc (n - 1))

minus_printed : (n : ℕ) (z : ℤ) → minus n ≡ Some z → signed_decimal z ≡ 45 ∷ decimal n
minus_printed zero z e = absurd cc
minus_printed (suc n) z e =
    let one_less : suc n - 1 ≡ n = omega arith in
    let found : Some (negsuc (suc n - 1)) ≡ Some z = sym (ap (minus_at (suc n)) (eqb-suc-zero n)) ∙ e in
    ap signed_decimal (sym (same (negsuc (suc n - 1)) z found)) ∙ ap (λ (m : ℕ). 45 ∷ decimal (suc m)) one_less

positive_printed : (limit : ℕ) (text : List ℕ) (z : ℤ) → limit ≤ 2 ^ 64 → positive limit text ≡ Some z
    → signed_decimal z ≡ text
positive_printed limit text z low e =
    let b = bound (number_below limit text) (λ n. Some (pos n)) z e in
    ap signed_decimal (sym (same (pos b.0) z b.2)) ∙ sym (below-read limit text b.0 low b.1).printed

negative_printed : (limit : ℕ) (digits : List ℕ) (z : ℤ) → limit + 1 ≤ 2 ^ 64 → negative limit digits ≡ Some z
    → signed_decimal z ≡ 45 ∷ digits
negative_printed limit digits z low e =
    let b = bound (number_below (limit + 1) digits) minus z e in
    minus_printed b.0 z b.2 ∙ ap (λ (t : List ℕ). 45 ∷ t) (sym (below-read (limit + 1) digits b.0 low b.1).printed)

signed_at : (limit : ℕ) (b : ℕ) (text : List ℕ) (z : ℤ) (t : Bool) → bytes_eq (b ∷ []) (codes "-") ≡ t
    → limit + 1 ≤ 2 ^ 64 → cond t (negative limit text) (positive limit (b ∷ text)) ≡ Some z
    → signed_decimal z ≡ b ∷ text
signed_at limit b text z true is low e =
    let minus_is : b ∷ [] ≡ 45 ∷ [] = (bytes_eq-Decides (b ∷ []) (codes "-")).0 is in
    negative_printed limit text z low e ∙ ap (λ (front : List ℕ). front ++ text) (sym minus_is)
signed_at limit b text z false is low e = positive_printed limit (b ∷ text) z (omega (arith, low)) e

signed_printed : (limit : ℕ) (text : List ℕ) (z : ℤ) → limit + 1 ≤ 2 ^ 64 → signed_below limit text ≡ Some z
    → signed_decimal z ≡ text
signed_printed limit [] z low e = positive_printed limit [] z (omega (arith, low)) e
signed_printed limit (b ∷ text) z low e = signed_at limit b text z (bytes_eq (b ∷ []) (codes "-")) refl low e

signed : (f : ValueLayer → List ℕ) (make : ℤ → Value) (limit : ℕ) (text : List ℕ) (v : Value)
    → ((z : ℤ) → f (out-Value (make z)) ≡ signed_decimal z) → limit + 1 ≤ 2 ^ 64
    → option_map make (signed_below limit text) ≡ Some v → f (out-Value v) ≡ text
signed f make limit text v shows low e =
    let m = mapped make (signed_below limit text) v e in
    subst (λ (x : Value). f (out-Value x) ≡ text) m.2 (shows m.0 ∙ signed_printed limit text m.0 low m.1)

-- ---- truth values, chars and strings

false_at : (text : List ℕ) (b t : Bool) → bytes_eq text (codes "FALSE") ≡ t → cond t (Some false) None ≡ Some b
    → truth_text b ≡ text
false_at text b true is e =
    ap truth_text (sym (same false b e)) ∙ sym ((bytes_eq-Decides text (codes "FALSE")).0 is)
false_at text b false is e = absurd cc

truth_at : (text : List ℕ) (b t : Bool) → bytes_eq text (codes "TRUE") ≡ t
    → cond t (Some true) (cond (bytes_eq text (codes "FALSE")) (Some false) None) ≡ Some b → truth_text b ≡ text
truth_at text b true is e = ap truth_text (sym (same true b e)) ∙ sym ((bytes_eq-Decides text (codes "TRUE")).0 is)
truth_at text b false is e = false_at text b (bytes_eq text (codes "FALSE")) refl e

boolean_back : (f : ValueLayer → List ℕ) → Texts f → (text : List ℕ) (v : Value) → boolean_value text ≡ Some v
    → f (out-Value v) ≡ text
boolean_back f shows text v e =
    let m = mapped value.Boolean (truth_named text) v e in
    subst (λ (x : Value). f (out-Value x) ≡ text) m.2
    (ap f (value-boolean m.0) ∙ shows.boolean m.0 ∙ truth_at text m.0 (bytes_eq text (codes "TRUE")) refl m.1)

char_back : (f : ValueLayer → List ℕ) → Texts f → (text : List ℕ) (v : Value) → char_value text ≡ Some v
    → f (out-Value v) ≡ text
char_back f shows [] v e = absurd cc
char_back f shows (b ∷ []) v e =
    subst (λ (x : Value). f (out-Value x) ≡ b ∷ []) (same (value.Char b) v e) (ap f (value-char b) ∙ shows.char b)
char_back f shows (b ∷ d ∷ text) v e = absurd cc

string_at : (f : ValueLayer → List ℕ) → Texts f → (text : List ℕ) (v : Value) (t : Bool)
    → cond t None (Some (value.Str text)) ≡ Some v → f (out-Value v) ≡ text
string_at f shows text v true e = absurd cc
string_at f shows text v false e =
    subst (λ (x : Value). f (out-Value x) ≡ text) (same (value.Str text) v e)
    (ap f (value-str text) ∙ shows.string text)

string_back : (f : ValueLayer → List ℕ) → Texts f → (text : List ℕ) (v : Value) → string_value text ≡ Some v
    → f (out-Value v) ≡ text
string_back f shows text v e = string_at f shows text v (has_nul text) e

-- ---- each of them

pub item_back : (f : ValueLayer → List ℕ) → Texts f → (i : ItemType) (text : List ℕ) (v : Value)
    → item_value i text ≡ Some v → f (out-Value v) ≡ text
unfolding item_value
item_back f shows item.Short text v e =
    signed f value.Short 32768 text v (λ z. ap f (value-short z) ∙ shows.short z) (omega arith) e
item_back f shows item.Long text v e =
    signed f value.Long 2147483648 text v (λ z. ap f (value-long z) ∙ shows.long z) (omega arith) e
item_back f shows item.LongLong text v e =
    signed f value.LongLong 9223372036854775808 text v (λ z. ap f (value-longlong z) ∙ shows.long_long z)
    (omega arith) e
item_back f shows item.UShort text v e =
    unsigned f value.UShort 65536 text v (λ n. ap f (value-ushort n) ∙ shows.u_short n) (omega arith) e
item_back f shows item.ULong text v e =
    unsigned f value.ULong 4294967296 text v (λ n. ap f (value-ulong n) ∙ shows.u_long n) (omega arith) e
item_back f shows item.ULongLong text v e =
    unsigned f value.ULongLong 18446744073709551616 text v (λ n. ap f (value-ulonglong n) ∙ shows.u_long_long n)
    (omega arith) e
item_back f shows item.Octet text v e =
    unsigned f value.Octet 256 text v (λ n. ap f (value-octet n) ∙ shows.octet n) (omega arith) e
item_back f shows item.Char text v e = char_back f shows text v e
item_back f shows item.Boolean text v e = boolean_back f shows text v e
item_back f shows item.Str text v e = string_back f shows text v e
