-- Worked examples of the order in which a visit asks.
use Rattle.std.specs.Prelude.{◌≡◌, [], ◌∷◌, Some, codes}
use Rattle.td_store.specs.Examples.{nobody}
use Rattle.td_value.specs.declared.enumerations.FollowOption.TheVariants.{IfNoLocal}
use Rattle.td_walk.specs.SubQueries.{link_query, proxy_query}
use Rattle.td_walk.specs.declared.answer.Next.TheVariants.{Forward}
use Rattle.td_walk.specs.declared.answer.StepAnswer.TheVariants.{Failed}
use Rattle.td_query_walk.specs.Examples.{as_it_is, elsewhere, link, over, proxy, queue_and_serial, unreachable}
use Rattle.td_query_walk.specs.SearchOrder.{AsksInOrder, dynamics}

pub record WorkedOrder : Type 0 where
  -- a dynamic property that is mentioned twice is evaluated once, and one that isn't dynamic isn't evaluated
  pub once : dynamics queue_and_serial [] (codes "Queue" ∷ codes "Serial" ∷ codes "Queue" ∷ [])
      ≡ (codes "Queue", unreachable) ∷ []
  -- one that was evaluated isn't evaluated again
  pub not_again : dynamics queue_and_serial (codes "Queue" ∷ []) (codes "Queue" ∷ []) ≡ []
  -- a proxy offer's trader, and then the target of a link
  pub both : AsksInOrder (over IfNoLocal (proxy ∷ [])) []
      (Forward nobody (proxy_query (over IfNoLocal (proxy ∷ []))
      (Some 1000) as_it_is (codes "TRUE"))
      ∷ Forward elsewhere (link_query (over IfNoLocal (proxy ∷ [])) (Some 1000) (link IfNoLocal))
      ∷ []) (Failed ∷ Failed ∷ [])
