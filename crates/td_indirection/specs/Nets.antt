-- A small grammar that each way to build a format with a state has a part in. A node has edges to nodes, which may lead
-- back: it is spelled by an unsigned long 1 and an encapsulation that holds its edges behind their number. An edge is
-- spelled as the node to which it leads or, where that was spelled before, as an unsigned long 0 and an indirection.
use Rattle.std.specs.Prelude.{◌≡◌, ℕ, zero, suc, ◌+◌, ◌-◌, ◌^◌, ◌<◌, Bool, true, false, nat_eq, List, [], ◌∷◌, length}
use Rattle.std.specs.Prelude.{Some, Ok, refl}
use Rattle.std.proofs.Common.{sym, ◌∙◌, arith}
use Rattle.std.proofs.lemmas.Bool.{eq-eqb, ne_eqb}
use Rattle.std.proofs.lemmas.List.{length-map}
use Rattle.td_cdr.specs.declared.order.Order.TheVariants.{Big}
use Rattle.td_cdr.specs.declared.value_fault.ValueFault.{ValueFault}
use Rattle.td_cdr.specs.declared.value_fault.ValueFault.TheVariants as fault
use Rattle.td_cdr.specs.Place.{At}
use Rattle.td_cdr.specs.Reading.{next_aligned}
use Rattle.td_cdr.specs.Format.{nth}
use Rattle.td_cdr.specs.Spelling.{Joins}
use Rattle.td_cdr.specs.Faults.{Refuses}
use Rattle.td_cdr.specs.Sound.{Sound as Plain, ulong, enumeration, failure}
use Rattle.td_indirection.specs.States.{CodingState, empty, places, ulong_place, slot, IsRising}
use Rattle.td_indirection.specs.Stateful.{Sound, TaggedArm, Transfers}
use Rattle.td_indirection.specs.Tables.{alike-length}
use Rattle.td_indirection.specs.Pairs.{lift}
use Rattle.td_indirection.specs.Encapsulations.{encapsulation}
use Rattle.td_indirection.specs.Indirections.{indirection, target, long_to, number-below}
use Rattle.td_indirection.specs.NodeStarts.{node}
use Rattle.td_indirection.specs.Choices.{IsSized, HasTag, arm, choice, sequence_with}
use Rattle.td_indirection.specs.Ulongs.{ulong-sized, ulong-long}

abbrev pub kind_number : Bool → ℕ
kind_number false = 0
kind_number true = 1

pub each-kind : (b : Bool) → nth (false ∷ true ∷ []) (kind_number b) ≡ Some b
each-kind false = refl
each-kind true = refl

-- whether a node stands behind it, or an indirection
abbrev pub kind : Plain ValueFault Bool
kind = enumeration (false ∷ true ∷ []) kind_number each-kind refl

pub kind-sized : IsSized kind
kind-sized b order place = ulong-sized (kind_number b) order place

abbrev pub most_nodes : ℕ
most_nodes = 4096

abbrev pub too_many : At → ValueFault
too_many kind = fault.Depth (next_aligned 4 kind)

abbrev pub no_node : At → ValueFault
no_node long = fault.Indirection (next_aligned 4 long - 4)

-- what is known of a node: the numbers of the nodes to which its edges lead
abbrev pub Edges : Type 0
Edges = List ℕ

abbrev pub behind_kind : Sound ValueFault Edges ℕ → Bool → TaggedArm ValueFault Edges ℕ
behind_kind inner true = node most_nodes too_many []
    (encapsulation fault.Cdr (sequence_with ulong ulong-sized inner))
behind_kind inner false = arm (indirection no_node ulong ulong-long)

-- a node that wasn't spelled yet is spelled
abbrev pub is_new : List Edges → CodingState Edges → ℕ → Bool
is_new net s j = nat_eq j (length s.table)

pub new-content : (inner : Sound ValueFault Edges ℕ) → HasTag (behind_kind inner) is_new
new-content inner true net m s u order place j next b sp agrees alike =
    sym (eq-eqb j (length u.table) (sp.3 ∙ alike-length s u alike))
new-content inner false net m s u order place j next b sp agrees alike =
    let low = number-below 0 (places s) (2 ^ 32 - sp.0) (ulong_place s place) j sp.2 in
    let count : length (places s) ≡ length s.table = length-map s.table (λ x. x.place) in
    let same = alike-length s u alike in
    sym (ne_eqb j (length u.table) (λ e. absurd (omega (arith, low, count, same, e))))

-- an edge, by its node's number, where nodes stand in one another to at most so many levels
abbrev pub edge : ℕ → Sound ValueFault Edges ℕ
edge zero = lift (failure (λ a. fault.Depth (next_aligned 4 a)))
edge (suc levels) = choice kind kind-sized (behind_kind (edge levels)) is_new
    (new-content (edge levels))

-- ---- what holds of it

-- What is read is spelled so, and what is spelled so is read whatever follows.
abbrev pub NetsAreRead : Type 0
NetsAreRead = (levels : ℕ) (s : CodingState Edges)
    → Joins ((edge levels).format.spells s) ((edge levels).format.reads s)

-- It is refused exactly where the bytes are at fault.
abbrev pub NetsAreRefused : Type 0
NetsAreRefused = (levels : ℕ) (s : CodingState Edges)
    → Refuses ((edge levels).format.faults s) ((edge levels).format.reads s)

-- What has a spelling in one state has that in each state with the same nodes which is written there.
abbrev pub NetsAreWritten : Type 0
NetsAreWritten = (levels : ℕ) → Transfers (edge levels).format

-- The long that is written for a node leads to it.
abbrev pub LongsLead : Type 0
LongsLead =
    (first : ℕ) (s : CodingState Edges) (p j : ℕ) → IsRising first s p → j < length s.table
    → ulong_place s p < first + 2 ^ 32 → target s p (long_to s p j) ≡ Some j

-- ---- a node with an edge to itself: its kind at 0, an encapsulation from 8 on, the number of edges at 12, the
-- indirection at 16, whose long at 20 leads 20 bytes back

abbrev pub itself : List ℕ
itself =
    0 ∷ 0 ∷ 0 ∷ 1 ∷ 0 ∷ 0 ∷ 0 ∷ 16 ∷ 0 ∷ 0 ∷ 0 ∷ 0 ∷ 0 ∷ 0 ∷ 0 ∷ 1 ∷ 0 ∷ 0 ∷ 0 ∷ 0 ∷ 255 ∷ 255 ∷ 255
    ∷ 236 ∷ []

abbrev pub behind_itself : CodingState Edges
behind_itself = record { base = 0; table = slot 0 (0 ∷ []) ∷ []; linked = true }

abbrev pub stands : ℕ → List ℕ → At
stands place rest = record { rest = rest; place = place; origin = 0; order = Big }

abbrev pub ReadsItself : Type 0
ReadsItself = (edge 2).format.reads empty (stands 0 itself) ≡ Ok ((0, behind_itself), stands 24 [])

abbrev pub WritesItself : Type 0
WritesItself = (edge 2).format.writes ((0 ∷ []) ∷ []) empty 0 Big 0 ≡ itself
