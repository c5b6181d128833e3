-- Words that are refused.
use Rattle.std.proofs.Common.{◌≡◌, ◌∙◌, ◌||◌, ap, inl, inr, true, false, Bool, List, [], ◌∷◌, map, Option, Some, None}
use Rattle.std.proofs.Common.{cond, refl}
use Rattle.std.specs.Prelude.{Result, Ok, Err}
use Rattle.std.specs.List.{list_any}
use Rattle.clap.specs.Words.{Text}
use Rattle.td_cli_request.specs.Askings.{asking_of}
use Rattle.td_cli_request.specs.declared.making.Asking.{Asking}
use Rattle.td_cdr.specs.Text.{has_nul}
use Rattle.td_ior.specs.Keys.{◌>>=◌}
use Rattle.td_cli_args.specs.Answers.{IsRefusal, asked_of, refusals}
use Rattle.td_cli_args.specs.Wishes.{CommandWords}
use Rattle.td_cli_args.specs.declared.parsing.Refusal.{Refusal}
use Rattle.td_cli_args.specs.declared.parsing.Refusal.TheVariants as refusal
use Rattle.td_cli_program.specs.Words.{IsRefusedWords, Makes, ParsesWords, asking_in}

-- a test of what is made of each item
pub any-map : {A B : Type 0} (f : A → B) (p : B → Bool) (xs : List A)
    → list_any p (map f xs) ≡ list_any (λ x. p (f x)) xs
any-map f p [] = refl
any-map f p (x ∷ xs) = ap (λ b. p (f x) || b) (any-map f p xs)

cond_none : (b : Bool) (x : Option Asking) → x ≡ None → cond b None x ≡ None
cond_none true x e = refl
cond_none false x e = e

-- a word has a NUL
none_with_nul : (words : List Text) → list_any has_nul words ≡ true → asking_in words ≡ None
unfolding asking_in
none_with_nul words nul = rw nul refl

pub with_nul : (words : List Text) → list_any has_nul words ≡ true → IsRefusedWords words refusal.Form
with_nul words nul = (none_with_nul words nul, inl nul)

-- what clap reads of words without a NUL, by what it asks for
pub read : (words : List Text) (asked : CommandWords) → list_any has_nul words ≡ false → asked_of words ≡ Some asked
    → asking_in words ≡ asking_of asked
unfolding asking_in
read words asked plain is = rw (plain, is) refl

-- clap reads nothing
none_read : (words : List Text) → asked_of words ≡ None → asking_in words ≡ None
unfolding asking_in
none_read words is =
    cond_none (list_any has_nul words) (asked_of words >>= asking_of)
    (ap (λ (o : Option CommandWords). o >>= asking_of) is)

-- clap refuses the words, or reads nothing
pub unread : (words : List Text) (r : Refusal) → IsRefusal words r → IsRefusedWords words r
unread words refusal.Memory is = tt
unread words (refusal.Words e) is = is
unread words refusal.Form is = (none_read words is.0, inr is.1)

-- what is made of the words that clap reads
pub made : (words : List Text) (asked : CommandWords) (r : Result Asking Refusal) → list_any has_nul words ≡ false
    → (asked_of words ≡ Some asked) × (refusals words ≡ []) → Makes (asking_of asked) r → ParsesWords words r
made words asked (Ok asking) plain is m = read words asked plain is.0 ∙ m
made words asked (Err refusal.Memory) plain is m = tt
made words asked (Err (refusal.Words e)) plain is m = absurd m
made words asked (Err refusal.Form) plain is m = (read words asked plain is.0 ∙ m, inr is.1)
