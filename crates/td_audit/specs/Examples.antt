-- Worked examples: audits of a network of one trader, what the first line tells, and which call goes on in a log that
-- is made.
use Rattle.std.specs.Prelude.{◌≡◌, List, [], ◌∷◌, codes, None, Some}
use Rattle.td_net.specs.Worlds.{sent, state_at, waiting_call}
use Rattle.td_net.specs.declared.call.Call.{Call}
use Rattle.td_net.specs.declared.event.Event.TheVariants as event
use Rattle.td_net.specs.declared.event.NetFault.TheVariants.{NoCall}
use Rattle.td_ops.specs.declared.call.Query.{Query}
use Rattle.td_store.specs.declared.local.Local.{Local}
use Rattle.td_trader.specs.PlainTraders.{PlainTrader}
use Rattle.td_walk.specs.declared.trace.Address.{Address}
use Rattle.td_audit.specs.Auditing.{Audits, opening_of}
use Rattle.td_audit.specs.Making.{innermost_call, text_of_lines, next_in}
use Rattle.td_audit.specs.declared.verdict.Cause.TheVariants.{Net}
use Rattle.td_audit.specs.declared.verdict.Verdict.TheVariants.{Yes, No, Line}

pub record WorkedAudits (t : PlainTrader) (home : Address) : Type 0 where
  pub empty : Audits (t ∷ []) home [] (Yes 0)
  pub words : Audits (t ∷ []) home (codes "words 7 0") (Yes 1)
  pub no_call : Audits (t ∷ []) home (codes "deliver 0") (No 1 (Net NoCall))
  -- the first line that fails decides, and the second isn't looked at
  pub first : Audits (t ∷ []) home (codes "lose 0\ndeliver") (No 1 (Net NoCall))
  pub strange : Audits (t ∷ []) home (codes "deliver") (Line 1)
  pub late_words : Audits (t ∷ []) home (codes "words 7\nwords 0") (Line 2)

pub record WorkedOpenings : Type 0 where
  pub words : opening_of (codes "words 7 0" ∷ codes "deliver 0" ∷ [])
      ≡ record { words = 7 ∷ 0 ∷ []; number = 1; lines = codes "deliver 0" ∷ [] }
  pub none : opening_of (codes "deliver 0" ∷ [])
      ≡ record { words = []; number = 0; lines = codes "deliver 0" ∷ [] }

-- call 0 waits for call 1, which was sent
abbrev pub two_calls : Query → Local → List Call
two_calls q l = waiting_call (sent 0 q 0 None) l [] [] 1 ∷ sent 0 q 0 (Some 0) ∷ []

pub record WorkedMaking (q : Query) (l : Local) : Type 0 where
  pub inner : innermost_call 2 (two_calls q l) 0 ≡ 1
  pub next : next_in 1 (state_at (two_calls q l) 1)
      ≡ Some (record { event = event.Deliver 1; line = codes "deliver 1" })
  -- a call that waits for another has no next event of its own
  pub none : next_in 0 (state_at (two_calls q l) 0) ≡ None
  pub content : text_of_lines (codes "deliver 1" ∷ codes "answer 1" ∷ [])
      ≡ codes "deliver 1\nanswer 1\n"
