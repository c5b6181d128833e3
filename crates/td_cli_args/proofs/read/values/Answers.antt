use Rattle.std.proofs.Common.{◌∙◌, ap, [], map, unwrap_or, List, Option}
use Rattle.std.proofs.lemmas.Result.{IfOk-weaker}
use Rattle.clap.specs.Words.{Text, found_of}
use Rattle.clap.proofs.WalkLemmas.{raw_values-rows}
use Rattle.td_cli_args.proofs.read.values.Goals as goal

pub returns-in-Some : goal.returns-in-Some
returns-in-Some c =
    let all =
    ap (λ (o : Option (List Text)). unwrap_or o [])
    (c.in-Some.ensures ∙ raw_values-rows (found_of c.args.matches.now) c.args.name.now) in
    IfOk-weaker c.from_slice.result _ _ (λ v h. ap (λ xs. map (λ s. s.now) xs) h ∙ all) c.from_slice.ensures.items

pub returns-in-None : goal.returns-in-None
returns-in-None c =
    ap (λ xs. map (λ s. s.now) xs) c.new.ensures.items
    ∙ ap (λ (o : Option (List Text)). unwrap_or o [])
    (c.in-None.ensures ∙ raw_values-rows (found_of c.args.matches.now) c.args.name.now)
