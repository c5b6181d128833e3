use Rattle.std.proofs.Common.{◌≡◌, true, false, not, sym, ap, ◌∙◌}
use Rattle.td_exceptions.specs.declared.exception.UserException.TheVariants.{IllegalRecipe}
use Rattle.td_register.specs.Proxies.{is_recipe}
use Rattle.td_register.proofs.Otherwise.{not_raised, raises}
use Rattle.td_export.proofs.proxy_exporting.check_recipe.Goals as goal

pub returns-then-not-branch : goal.returns-then-not-branch
returns-then-not-branch c =
    let text = c.args.recipe.now in
    let none : is_recipe text ≡ false =
    sym (rw c.as_slice.ensures at c.in_ok-is_recipe.ensures) ∙ c.if-not-branch.true in
    rw (c.raised.ensures, c.in_ok-copy.ensures) (raises (not (is_recipe text)) (IllegalRecipe text) (ap not none))

pub returns : goal.returns
returns c =
    let text = c.args.recipe.now in
    let fine : is_recipe text ≡ true =
    sym (rw c.as_slice.ensures at c.in_ok-is_recipe.ensures) ∙ c.if-not-branch.false in
    not_raised (not (is_recipe text)) (IllegalRecipe text) (ap not fine)
