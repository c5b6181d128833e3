-- A worked example: what is remembered of calls.
use Rattle.std.specs.Prelude.{◌≡◌, [], ◌∷◌, None, Some}
use Rattle.td_names.specs.Examples.{a, home, p1, x}
use Rattle.td_names.specs.References.{reference_of}
use Rattle.td_names.specs.declared.act.NameAct.{NameAct}
use Rattle.td_names.specs.declared.act.NameAct.TheVariants as act
use Rattle.td_names.specs.declared.act.NameReply.TheVariants as reply
use Rattle.td_naming.specs.Histories.{reply_of}
use Rattle.td_naming.specs.Views.{View, after_own, answer_at}

-- nothing was done
abbrev pub bare : View
bare = record { home = home; history = []; own = [] }

abbrev pub make : NameAct
make = act.BindNewContext (a ∷ [])

abbrev pub bind : NameAct
bind = act.Bind (a ∷ x ∷ []) p1

-- the first call makes the context 2, the second binds in it, and the third is refused, since the name is bound
abbrev pub made : View
made = after_own bare 1 make (answer_at bare 1 make)

abbrev pub bound : View
bound = after_own made 1 bind (answer_at made 1 bind)

abbrev pub again : View
again = after_own bound 1 bind (answer_at bound 1 bind)

pub record WorkedHistory : Type 0 where
  pub history : again.history ≡ record { context = 1; act = make; made = Some 2 }
      ∷ record { context = 1; act = bind; made = None } ∷ []
  pub own : again.own ≡ 0 ∷ 1 ∷ []
  pub replies : (reply_of home (Some 2) ≡ reply.Object (reference_of home 2))
      × (reply_of home None ≡ reply.Nothing)
  pub kept : again ≡ bound
