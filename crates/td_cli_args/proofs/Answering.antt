-- What clap's answer says of the program's words.
use Rattle.std.proofs.Common.{◌≡◌, ◌⊎◌, inl, inr, refl, sym, ap, subst, true, false, Bool, List}
use Rattle.std.specs.Prelude.{◌≢◌}
use Rattle.clap.specs.Words.{HasMatchesOf, HasKind, IsAmong, Kinds, Text, fault_of, kind_of, takes}
use Rattle.clap.specs.Words.{subcommand_rows_of}
use Rattle.clap.specs.declared.error.Error.{Error}
use Rattle.clap.specs.declared.error.kind.ErrorKind.TheVariants as kind
use Rattle.clap.specs.declared.parser.matches.ArgMatches.{ArgMatches}
use Rattle.td_cli_args.specs.Answers.{IsRefusal, asked_of, is_taken, refusals}
use Rattle.td_cli_args.specs.Matches.{read_matches}
use Rattle.td_cli_args.specs.Tool.{tool_app}
use Rattle.td_cli_args.specs.declared.parsing.Refusal.{Refusal}
use Rattle.td_cli_args.specs.declared.parsing.Refusal.TheVariants as refusal

pub matched : (words : List Text) (m : ArgMatches) → HasMatchesOf tool_app words m
    → read_matches (subcommand_rows_of m) ≡ asked_of words
unfolding asked_of
matched words m h = ap read_matches (h refl).1

among : (k : Kinds) (e : Error) → kind_of e ≢ kind.OutOfMemory → HasKind k e → IsAmong (kind_of e) k
among k e other (inl m) = absurd (other m)
among k e other (inr a) = a

not_taken : (b : Bool) (e : Error) → kind_of e ≢ kind.OutOfMemory → (b ≡ true → kind_of e ≡ kind.OutOfMemory)
    → b ≡ false
not_taken true e other h = absurd (other (h refl))
not_taken false e other h = refl

pub refused : (words : List Text) (e : Error) (r : Refusal)
    → (takes tool_app words ≡ true → kind_of e ≡ kind.OutOfMemory) → HasKind (fault_of tool_app words) e
    → (r ≡ refusal.Memory) ⊎ ((kind_of e ≢ kind.OutOfMemory) × (r ≡ refusal.Words e)) → IsRefusal words r
unfolding is_taken refusals
refused words e r passes kinds (inl m) = subst (λ (x : Refusal). IsRefusal words x) (sym m) tt
refused words e r passes kinds (inr o) =
    subst (λ (x : Refusal). IsRefusal words x) (sym o.1)
    (not_taken (takes tool_app words) e o.0 passes, among (fault_of tool_app words) e o.0 kinds)
