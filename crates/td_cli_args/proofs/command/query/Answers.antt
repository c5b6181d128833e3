use Rattle.std.proofs.Common.{rules, codes}
use Rattle.std.proofs.lemmas.Result.{IfOk-weaker}
use Rattle.clap.specs.Words.{new_app}
use Rattle.td_cli_args.specs.Tool.{IsCommand, literal_word, many, option_word, flag}
use Rattle.td_cli_args.proofs.Adding.{added}
use Rattle.td_cli_args.proofs.command.query.Goals as goal

pub returns : goal.returns
returns c =
    let a0 : IsCommand (new_app (codes "query")) c.named.result =
    record { app = search rules; local = search rules } in
    let a1 = added _ _ _ _ (option_word (codes "how-many")) c.in_ok-arg.ensures a0 (search rules) (search rules) in
    let a2 = added _ _ _ _ (option_word (codes "hops")) c.in_ok-arg-2.ensures a1 (search rules) (search rules) in
    let a3 = added _ _ _ _ (option_word (codes "follow")) c.in_ok-arg-3.ensures a2 (search rules) (search rules) in
    let a4 = added _ _ _ _ (option_word (codes "id")) c.in_ok-arg-4.ensures a3 (search rules) (search rules) in
    let a5 = added _ _ _ _ (flag (codes "exact")) c.in_ok-command.ensures a4 (search rules) (search rules) in
    let a6 = added _ _ _ _ (literal_word (codes "ref")) c.in_ok-arg-5.ensures a5 (search rules) (search rules) in
    let a7 = added _ _ _ _ (literal_word (codes "type")) c.in_ok-arg-6.ensures a6 (search rules) (search rules) in
    let a8 = added _ _ _ _ (literal_word (codes "constraint")) c.in_ok-arg-7.ensures a7 (search rules) (search rules) in
    let a9 = added _ _ _ _ (literal_word (codes "preference")) c.in_ok-arg-8.ensures a8 (search rules) (search rules) in
    IfOk-weaker c.arg-10.result _ _ (λ r h. added _ _ _ _ (many (codes "name")) h a9 (search rules) (search rules))
    c.arg-10.ensures
