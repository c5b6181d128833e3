-- The replies of accepted changes.
use Rattle.std.proofs.Common.{◌≡◌, true, refl, subst}
use Rattle.td_ops.specs.declared.call.Change.{Change}
use Rattle.td_ops.specs.declared.call.Change.TheVariants as change
use Rattle.td_ops.specs.declared.outcome.Outcome.TheVariants.{Done}
use Rattle.td_ops.specs.declared.outcome.Reply.{Reply}
use Rattle.td_register.specs.ChangeReplies.{answers_change}
use Rattle.td_register.specs.Stores.{Store}
use Rattle.td_changes.specs.Applying.{acceptance, apply, comes_to}
use Rattle.td_changes.proofs.Steps.{accepted}
use Rattle.td_changes.proofs.Refusing.{done}

of_change : (s : Store) (c : Change) → answers_change (acceptance s c) ≡ true
of_change s (change.Export reference type_name properties) = refl
of_change s _ = refl

pub answered : (s : Store) (c : Change) (content : Reply) → (apply s c).outcome ≡ Done content → answers_change content ≡ true
answered s c content h =
    let came = done s (comes_to s c) content h in
    subst (λ (r : Reply). answers_change r ≡ true) (accepted s c content came.after came.is).reply (of_change s c)
