-- What comes of the calls of an Ask where one of the premises on its identifier doesn't hold: a call doesn't give its
-- tree.
use Rattle.std.specs.Prelude.{◌≡◌, ℕ, List, [], ◌∷◌, map, codes, Option, None, Some, option_map}
use Rattle.td_typecode.specs.declared.reference.Ior.{Ior}
use Rattle.td_net.specs.Schedules.{Run}
use Rattle.td_net.specs.Worlds.{delivery_of, inside, sent, visit_state, start, visit_at, world}
use Rattle.td_net.specs.declared.call.Call.{Call}
use Rattle.td_net.specs.declared.call.Stage.{Stage}
use Rattle.td_net.specs.declared.call.Stage.TheVariants.{Waiting}
use Rattle.td_net.specs.declared.event.Event.TheVariants.{Ask, Deliver}
use Rattle.td_net_examples.specs.Fixtures.{HasTree, answer_stage, asks, asks_under, found, offer_numbered, link}
use Rattle.td_net_examples.specs.Fixtures.{trader_with_link, repeat_stage}
use Rattle.td_net_examples.specs.Fixtures.{after_search, trader, trader_without_links}
use Rattle.td_net_laws.specs.Arrivals.{head_of, search_at}
use Rattle.td_net_laws.specs.Premises.{IsAlone, IsFresh, IsRemembered}
use Rattle.td_ops.specs.declared.call.Query.{Query}
use Rattle.td_targets.specs.Targets.{home_key}
use Rattle.td_trader.specs.PlainTraders.{PlainTrader}
use Rattle.td_value.specs.declared.key.Kind.TheVariants.{Lookup}
use Rattle.td_value.specs.declared.key.ObjectKey.{ObjectKey}
use Rattle.td_walk.specs.declared.answer.SubAnswer.{SubAnswer}
use Rattle.td_walk.specs.declared.trace.Address.{Address}
use Rattle.td_query_walk.specs.Walks.{answer_in}

abbrev pub lookup : (name : List ℕ) → ObjectKey
lookup name = record { trader = name; kind = Lookup }

-- the references of A and B are those of their Lookups at this server
pub record AreLookups (home : Address) (to : List ℕ → Ior) : Type 0 where
  pub a : home_key home (to (codes "A")) ≡ Some (lookup (codes "A"))
  pub b : home_key home (to (codes "B")) ≡ Some (lookup (codes "B"))

-- a call of an Ask, delivered behind so many others to this trader, as it stands now
abbrev pub call_of : (target : ℕ) → Query → (root : ℕ) → (caller : Option ℕ) → (serial : ℕ)
    → PlainTrader → Stage → Call
call_of target q root caller serial t stage = record (sent target q root caller) {
  stage = stage;
  delivery = Some (delivery_of serial t);
}

-- it waits for its first question, which is the call of this number
abbrev pub waits_at : PlainTrader → Query → (sub : ℕ) → Stage
waits_at t q sub = Waiting (visit_state (search_at t q) []) sub

-- what the call has ended with
abbrev pub CallEndedWith : List Call → (c : ℕ) → SubAnswer → Type 0
CallEndedWith calls c a = option_map answer_in (visit_at calls c) ≡ Some a

-- ---- not fresh: A, which has no link, remembers the identifier at the Ask

abbrev pub trader_remembering : PlainTrader
trader_remembering = after_search (codes "q")
    (trader_without_links (codes "A") (offer_numbered 1 (codes "a") ∷ []))

abbrev pub unfresh : List Call
unfresh = call_of 0 (asks 1 9) 0 None 0 trader_remembering repeat_stage ∷ []

pub record WithoutFresh (home : Address) (words : List ℕ) : Type 0 where
  pub run : Run (start (trader_remembering ∷ []) home words) (Ask 0 (asks 1 9) ∷ [])
      (world (trader_remembering ∷ []) home unfresh 1 words 0)
  pub not_fresh : IsFresh (trader_remembering ∷ []) 0 (map head_of unfresh) → ⊥
  pub tree : HasTree unfresh (inside (trader_remembering ∷ []) home) words 0 (found (codes "a"))
  pub gives : CallEndedWith unfresh 0 (found [])

-- ---- not alone: A has a link to B. While B's question is under way, another Ask comes to B under the same identifier.

abbrev pub trader_asking : (to : List ℕ → Ior) → PlainTrader
trader_asking to = trader_with_link to (codes "A") (codes "a") (codes "B")

abbrev pub trader_asked : PlainTrader
trader_asked = trader_without_links (codes "B") (offer_numbered 1 (codes "b") ∷ [])

abbrev pub shared_calls : (to : List ℕ → Ior) → List Call
shared_calls to =
    call_of 0 (asks 1 9) 0 None 0 (trader_asking to) (waits_at (trader_asking to) (asks 1 9) 1)
    ∷ call_of 1 (asks 0 8) 0 (Some 0) 2 (after_search (codes "q") trader_asked) repeat_stage
    ∷ call_of 1 (asks 1 9) 2 None 1 trader_asked (answer_stage (codes "b"))
    ∷ []

pub record WithoutAlone (to : List ℕ → Ior) (home : Address) (words : List ℕ) : Type 0 where
  pub run : Run (start (trader_asking to ∷ trader_asked ∷ []) home words)
      (Ask 0 (asks 1 9) ∷ Ask 1 (asks 1 9) ∷ Deliver 1 ∷ [])
      (world (after_search (codes "q") (trader_asking to) ∷ after_search (codes "q") trader_asked
      ∷ []) home (shared_calls to)
      3 words 0)
  pub not_alone : IsAlone 0 (map head_of (shared_calls to)) → ⊥
  pub tree : HasTree (shared_calls to) (inside (trader_asking to ∷ trader_asked ∷ []) home) words 1
      (found (codes "b"))
  pub gives : CallEndedWith (shared_calls to) 1 (found [])

-- ---- not remembered: A, which remembers one identifier, has a link to itself. While that question is under way, an
-- Ask under another identifier comes to A.

abbrev pub trader_forgetting : (to : List ℕ → Ior) → PlainTrader
trader_forgetting to = trader 1 (codes "A") (offer_numbered 1 (codes "a") ∷ []) (link to (codes "A")
    ∷ [])

abbrev pub forgot : (to : List ℕ → Ior) → PlainTrader
forgot to = after_search (codes "r") (after_search (codes "q") (trader_forgetting to))

abbrev pub forgotten_calls : (to : List ℕ → Ior) → List Call
forgotten_calls to =
    call_of 0 (asks 1 9) 0 None 0 (trader_forgetting to)
    (waits_at (trader_forgetting to) (asks 1 9) 1)
    ∷ call_of 0 (asks 0 8) 0 (Some 0) 2 (forgot to) (answer_stage (codes "a"))
    ∷ call_of 0 (asks_under (codes "r") 0 9) 2 None 1
    (after_search (codes "q") (trader_forgetting to))
    (answer_stage (codes "a"))
    ∷ []

pub record WithoutRemembered (to : List ℕ → Ior) (home : Address) (words : List ℕ) : Type 0 where
  pub run : Run (start (trader_forgetting to ∷ []) home words)
      (Ask 0 (asks 1 9) ∷ Ask 0 (asks_under (codes "r") 0 9) ∷ Deliver 1 ∷ [])
      (world (after_search (codes "q") (forgot to) ∷ []) home (forgotten_calls to) 3 words 0)
  pub not_remembered : IsRemembered 0 (map head_of (forgotten_calls to)) → ⊥
  pub tree : HasTree (forgotten_calls to) (inside (trader_forgetting to ∷ []) home) words 1
      (found [])
  pub gives : CallEndedWith (forgotten_calls to) 1 (found (codes "a"))
