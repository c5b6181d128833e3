-- Which calls change something, and what an accepted one is answered with (OMG's Naming Service, interface
-- CosNaming::NamingContext).
use Rattle.std.specs.Prelude.{◌≡◌, ◌+◌, Bool, true, false}
use Rattle.td_names.specs.Applying.{next_reference}
use Rattle.td_names.specs.Refusing.{is_refusal}
use Rattle.td_names.specs.Stores.{Store}
use Rattle.td_names.specs.declared.act.NameAct.{NameAct}
use Rattle.td_names.specs.declared.act.NameAct.TheVariants as act
use Rattle.td_names.specs.declared.act.NameAnswer.{NameAnswer}
use Rattle.td_names.specs.declared.act.NameAnswer.TheVariants.{Done}
use Rattle.td_names.specs.declared.act.NameReply.{NameReply}
use Rattle.td_names.specs.declared.act.NameReply.TheVariants as reply

abbrev pub is_change : NameAct → Bool
is_change (act.Resolve _) = false
is_change act.List = false
is_change _ = true

abbrev pub makes_context : NameAct → Bool
makes_context act.NewContext = true
makes_context (act.BindNewContext _) = true
makes_context _ = false

-- the reply of an accepted change: the context that it makes, or nothing
abbrev pub change_reply : Store → NameAct → NameReply
change_reply s act.NewContext = reply.Object (next_reference s)
change_reply s (act.BindNewContext name) = reply.Object (next_reference s)
change_reply s a = reply.Nothing

-- what a call that is answered so leaves of the store s
pub data ChangesStore (s : Store) (a : NameAct) (r : NameAnswer) (t : Store) : Type 0 where
  refused : is_refusal r ≡ true → t ≡ s → ChangesStore s a r t
  other : is_change a ≡ false → t ≡ s → ChangesStore s a r t
  accepted : is_change a ≡ true → r ≡ Done (change_reply s a) → t.changes ≡ s.changes + 1
      → ChangesStore s a r t
