use Rattle.std.proofs.Common.{◌≡◌, ◌∙◌, [], ap, subst, map}
use Rattle.std.specs.Prelude.{string_bytes}
use Rattle.clap.specs.Words.{App, HasMatchesOf, HasKind, fault_of, takes, is_simple_and_free}
use Rattle.td_cli_args.specs.Answers.{refusals}
use Rattle.td_cli_args.proofs.Answering.{matched, refused}
use Rattle.td_cli_args.proofs.parsing.parse.Goals as goal

pub returns-in-Ok-clause-ok : goal.returns-in-Ok-clause-ok
returns-in-Ok-clause-ok c =
    matched _ c.in-Ok.matches
    (subst (λ (a : App). HasMatchesOf a (map string_bytes c.args.words.now) c.in-Ok.matches)
    c.in_ok-command.ensures.app c.in-Ok.ensures.matches)

pub returns-in-Ok-clause-taken : goal.returns-in-Ok-clause-taken
unfolding refusals
returns-in-Ok-clause-taken c =
    let is = c.in_ok-command.ensures.app in
    subst (λ (a : App). fault_of a (map string_bytes c.args.words.now) ≡ []) is
    (c.in-Ok.ensures.kinds (ap is_simple_and_free is))

pub returns-in-Err-clause-err : goal.returns-in-Err-clause-err
returns-in-Err-clause-err c =
    let is = c.in_ok-command.ensures.app in
    refused _ c.in-Err.error c.refused.result
    (λ t. c.in-Err.ensures.passes (ap (λ (a : App). takes a (map string_bytes c.args.words.now)) is ∙ t))
    (subst (λ (a : App). HasKind (fault_of a (map string_bytes c.args.words.now)) c.in-Err.error) is
    (c.in-Err.ensures.kinds (ap is_simple_and_free is)))
    c.refused.ensures
