-- How far a query may still go (OMG's Trading Object Service, "Link Follow Behavior", hop_count and starting_trader),
-- and how many questions a visit may ask.
use Rattle.std.specs.Prelude.{◌≡◌, true, false, ℕ, ◌+◌, ◌*◌, ◌^◌, List, [], ◌∷◌, length, Option, None, Some, Ok, unwrap_or}
use Rattle.td_typecode.specs.declared.reference.Ior.{Ior}
use Rattle.td_eval.specs.Mentioning.{names_asked}
use Rattle.td_ops.specs.declared.call.Query.{Query}
use Rattle.td_policy.specs.Stated.{stated}
use Rattle.td_policy.specs.declared.stated.Stated.{Stated}
use Rattle.td_store.specs.declared.local.Local.{Local}
use Rattle.td_store.specs.declared.record.LinkRecord.{LinkRecord}
use Rattle.td_store.specs.declared.record.OfferRecord.{OfferRecord}
use Rattle.td_store.specs.declared.record.ProxyPart.{ProxyPart}
use Rattle.td_walk.specs.SubQueries.{has_hops, is_full, link_query, proxy_query, path_query, wanted_behind}
use Rattle.td_walk.specs.Visits.{desired_names}

-- ---- what is passed on

-- A query that a visit passes on, and to whom: of a search what is still wanted behind so many gathered offers.
pub data IsPassed (l : Local) : Ior → Query → Type 0 where
  over_link : (link : LinkRecord) (gathered : ℕ) → l.path ≡ None → has_hops l ≡ true
      → is_full (wanted_behind l gathered) ≡ false
      → IsPassed l link.target (link_query l (wanted_behind l gathered) link)
  to_proxy : (o : OfferRecord) (part : ProxyPart) (constraint : List ℕ) (gathered : ℕ)
      → l.path ≡ None → has_hops l ≡ true → is_full (wanted_behind l gathered) ≡ false
      → IsPassed l o.reference (proxy_query l (wanted_behind l gathered) part constraint)
  along_path : (link : LinkRecord) → l.path ≡ Some link → IsPassed l link.target (path_query l)

-- ---- how far a query may still go

-- A hop weighs more than a path, which has at most 64 names. A hop count that isn't stated is above each maximum.
abbrev pub weight_of : Stated → ℕ
weight_of s = 65 * unwrap_or s.hops (2 ^ 32) + length (unwrap_or s.start [])

-- a search goes by its hops, and along a path the query goes on as it is stated
abbrev pub reach_by : Option LinkRecord → Local → ℕ
reach_by None l = 65 * l.effective.hops
reach_by (Some link) l = weight_of l.stated

abbrev pub reach_of : Local → ℕ
reach_of l = reach_by l.path l

-- a path that is followed has a name
abbrev pub StartsPath : Option (List (List ℕ)) → Type 0
StartsPath None = ⊥
StartsPath (Some []) = ⊥
StartsPath (Some (name ∷ names)) = Unit {0}

-- along a path, the query's policies state what the visit goes by
abbrev pub IsReadFor : Option LinkRecord → Local → Type 0
IsReadFor None l = Unit {0}
IsReadFor (Some link) l = (stated l.query.policies ≡ Ok l.stated) × StartsPath l.stated.start

abbrev pub HasReadPath : Local → Type 0
HasReadPath l = IsReadFor l.path l

-- ---- how many questions a visit may ask

-- of a candidate the names that the constraint and the preference mention, the desired ones, and one call of a proxy
abbrev pub questions_on : Local → OfferRecord → ℕ
questions_on l o =
    length (names_asked l.constraint l.preference)
    + length (desired_names l.query.desired o.properties) + 1

abbrev pub questions_on_all : Local → List OfferRecord → ℕ
questions_on_all l [] = 0
questions_on_all l (o ∷ os) = questions_on l o + questions_on_all l os

-- and each link once; along a path there is one question
abbrev pub turns_by : Option LinkRecord → Local → ℕ
turns_by None l = questions_on_all l l.candidates + length l.links
turns_by (Some link) l = 1

abbrev pub turns_of : Local → ℕ
turns_of l = turns_by l.path l
