use Rattle.std.proofs.Common.{◌+◌, ◌<◌, length, refl, arith}
use Rattle.td_lang.proofs.NextToken.{none_ahead, token_ahead, fault_ahead}
use Rattle.td_lang.proofs.preference.next_token.Goals as goal

pub returns-then-blanks-rest-clause-looks : goal.returns-then-blanks-rest-clause-looks
returns-then-blanks-rest-clause-looks c =
    none_ahead c.args.text.now c.split_at.result.1.now c.args.from c.blank_length-blanks.result c.split_at.ensures.back
    c.blank_length-blanks.ensures.lead c.if-blanks-rest.true

pub returns-in-Ok-clause-looks : goal.returns-in-Ok-clause-looks
returns-in-Ok-clause-looks c =
    let some : c.blank_length-blanks.result < length c.split_at.result.1.now =
    omega (arith, c.if-blanks-rest.false, c.blank_length-blanks.ensures.within) in
    token_ahead c.args.text.now c.split_at.result.1.now c.split_at-2.result.1.now c.args.from
    c.blank_length-blanks.result (c.args.from + c.blank_length-blanks.result) c.in-Ok.size c.in-Ok.token
    c.split_at.ensures.back c.blank_length-blanks.ensures.lead some c.split_at-2.ensures.back refl
    c.in-Ok.ensures.gives c.in-Ok.ensures.within.0 c.in-Ok.ensures.within.1

pub returns-in-Err-clause-looks : goal.returns-in-Err-clause-looks
returns-in-Err-clause-looks c =
    let some : c.blank_length-blanks.result < length c.split_at.result.1.now =
    omega (arith, c.if-blanks-rest.false, c.blank_length-blanks.ensures.within) in
    fault_ahead c.args.text.now c.split_at.result.1.now c.split_at-2.result.1.now c.args.from
    c.blank_length-blanks.result (c.args.from + c.blank_length-blanks.result) c.in-Err.fault c.split_at.ensures.back
    c.blank_length-blanks.ensures.lead some c.split_at-2.ensures.back refl c.in-Err.ensures.gives
