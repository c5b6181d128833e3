use Rattle.std.proofs.Common.{◌≡◌, true, false, is_some, refl, sym, ◌∙◌}
use Rattle.td_cdr.specs.Names.{word_name}
use Rattle.td_exceptions.specs.declared.exception.UserException.TheVariants.{UnknownServiceType}
use Rattle.td_types.specs.Repository.{type_named}
use Rattle.td_register.specs.Named.{if_unmasked}
use Rattle.td_register.proofs.Otherwise.{nothing_there, something_there}
use Rattle.td_register.proofs.named.check_open.Goals as goal

pub returns-then-not-is_word_name : goal.returns-then-not-is_word_name
returns-then-not-is_word_name c =
    let none : word_name c.args.name.now ≡ false =
    sym (rw c.as_slice.ensures at c.is_word_name.ensures) ∙ c.if-not-is_word_name.true in
    rw (c.illegal_type.ensures, c.in_ok-copy.ensures, none) refl

pub returns-then-not-is_open : goal.returns-then-not-is_open
returns-then-not-is_open c =
    let name = c.args.name.now in
    let found = if_unmasked (type_named c.args.types.now.types name) in
    let fine : word_name name ≡ true =
    sym (rw c.as_slice.ensures at c.is_word_name.ensures) ∙ c.if-not-is_word_name.false in
    let closed : is_some found ≡ false =
    sym (rw c.as_slice-2.ensures at c.is_open.ensures) ∙ c.if-not-is_open.true in
    rw (c.unknown_type.ensures, c.in_ok-copy-2.ensures, fine) (nothing_there found (UnknownServiceType name) closed)

pub returns : goal.returns
returns c =
    let name = c.args.name.now in
    let found = if_unmasked (type_named c.args.types.now.types name) in
    let fine : word_name name ≡ true =
    sym (rw c.as_slice.ensures at c.is_word_name.ensures) ∙ c.if-not-is_word_name.false in
    let opened : is_some found ≡ true =
    sym (rw c.as_slice-2.ensures at c.is_open.ensures) ∙ c.if-not-is_open.false in
    rw fine (something_there found (UnknownServiceType name) opened)
