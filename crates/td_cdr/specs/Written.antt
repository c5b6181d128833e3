-- What a writer appends is a spelling.
use Rattle.std.proofs.Common.{ℕ, ℤ, ◌+◌, ◌^◌, ◌<◌, ◌≤◌, Bool, true, false, List, [], ◌∷◌, ◌++◌, length, refl, ap, ◌∙◌}
use Rattle.std.proofs.Common.{arith, length-append}
use Rattle.std.proofs.lemmas.List.{append-nil}
use Rattle.std.proofs.lemmas.Int.{to_z-of_z}
use Rattle.std.proofs.Math.Facts.{Fits-lt-pow, Fits-of_z}
use mir.Val.{bits}
use Rattle.std.specs.Int.{Width, cast_signed, cast_unsigned, from_bool}
use Rattle.std.specs.Int.RustNames.{FitsSigned}
use Rattle.td_cdr.specs.declared.order.Order.{Order}
use Rattle.td_cdr.specs.declared.order.Order.TheVariants.{Big, Little}
use Rattle.td_cdr.specs.Text.{HasNoNul}
use Rattle.td_cdr.specs.Gap.{flag}
use Rattle.td_cdr.specs.Writing.{written_number, written_octets}
use Rattle.td_cdr.specs.Spelling.{SpellsSigned, SpellsBoolean, SpellsString, closed, IsFlag}
use Rattle.td_cdr.specs.Items.{Item, pair, encapsulated, ValueOf, Spells}
use Rattle.td_cdr.specs.Joined.{written_number-spelled, written_octets-spelled}

pub written_signed-spelled : (width : Width) (size : ℕ) (order : Order) (place : ℕ) (v : ℤ)
    → 2 ^ bits width ≤ 256 ^ size → FitsSigned width v
    → SpellsSigned width size order place v
    (written_number size order place (cast_unsigned width v))
written_signed-spelled width size order place v wide fits =
    let below : cast_unsigned width v < 2 ^ bits width = Fits-lt-pow (Fits-of_z fits) in
    let s = written_number-spelled size order place (cast_unsigned width v) (omega arith) in
    record { long = s.long; value = ap (cast_signed width) s.value ∙ to_z-of_z width v fits }

flag-content : (v : Bool) → IsFlag v (from_bool v)
flag-content false = refl
flag-content true = refl

flag-below : (v : Bool) → from_bool v < 256 ^ 1
flag-below false = omega arith
flag-below true = omega arith

pub written_boolean-spelled : (order : Order) (place : ℕ) (v : Bool)
    → SpellsBoolean order place v (written_number 1 order place (from_bool v))
written_boolean-spelled order place v = record {
  flag = from_bool v;
  content = flag-content v;
  octet = written_number-spelled 1 order place (from_bool v) (flag-below v);
}

pub written_string-spelled : (order : Order) (place : ℕ) (v : List ℕ) → HasNoNul v
    → length v + 1 < 2 ^ 32 → SpellsString order place v (written_octets order place (v ++ 0 ∷ []))
written_string-spelled order place v free short = record {
  kept = v ++ 0 ∷ [];
  text = closed free refl;
  octets = written_octets-spelled order place (v ++ 0 ∷ [])
      (omega (arith, length-append v (0 ∷ [])));
}

pub written_pair-spelled : (first second : Item) (order : Order) (place : ℕ) (v : ValueOf first)
    (w : ValueOf second) (front back : List ℕ)
    → Spells first order place v front → Spells second order (place + length front) w back
    → Spells (pair first second) order place (v, w) (front ++ back)
written_pair-spelled first second order place v w front back s t = record {
  front = front;
  back = back;
  parts = refl;
  spelled = s;
  then_spelled = t;
}

pub written_within-spelled : (item : Item) (order inner : Order) (place : ℕ) (v : ValueOf item)
    (body : List ℕ)
    → Spells item inner 1 v body → length body + 1 < 2 ^ 32
    → Spells (encapsulated item) order place v (written_octets order place (flag inner ∷ body))
written_within-spelled item order Big place v body s short =
    record {
      little = false;
      flag = 0;
      body = body;
      ignored = [];
      order_of_flag = refl;
      octets = rw append-nil (written_octets-spelled order place (0 ∷ body) (omega arith));
      spelled = s;
    }
written_within-spelled item order Little place v body s short =
    record {
      little = true;
      flag = 1;
      body = body;
      ignored = [];
      order_of_flag = refl;
      octets = rw append-nil (written_octets-spelled order place (1 ∷ body) (omega arith));
      spelled = s;
    }
