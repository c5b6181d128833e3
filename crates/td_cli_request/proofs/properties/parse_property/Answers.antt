use Rattle.std.proofs.Common.{rules, ◌≡◌, Some}
use Rattle.td_forms.specs.Types.{value_type_of}
use Rattle.td_cli_request.specs.Cuts.{cut_first, cut_type}
use Rattle.td_cli_request.proofs.Piecing.{pieced}
use Rattle.td_cli_request.proofs.properties.parse_property.Goals as goal

pub returns : goal.returns
returns c =
    let name = c.in-Some.name.now in
    let typed = c.in-Some.typed.now in
    let word = c.in-Some-cut_type.type_word.now in
    let text = c.in-Some-cut_type.text.now in
    let first : cut_first 61 c.args.word.now ≡ Some (name, typed) = search rules in
    let second : cut_type typed ≡ Some (word, text) = search rules in
    let third : value_type_of word ≡ Some c.in-Some-value_type_of.value_type = search rules in
    pieced c.args.word.now name typed word text c.in-Some-value_type_of.value_type c.typed_property.result
    first second third c.typed_property.ensures
