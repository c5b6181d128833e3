-- Under which number each trader of a group remembers an identifier, before a search and behind it.
use Rattle.std.proofs.Common.{◌≡◌, ℕ, ◌+◌, Bool, true, false, cond, nat_eq, nat_lt, List, [], ◌∷◌, find}
use Rattle.std.proofs.Common.{Option, Some, None, option_map, option_and_then, slice_get, slice_set, bytes_eq}
use Rattle.std.proofs.Common.{refl, sym, ap, subst, ◌∙◌, eqb-true}
use Rattle.std.proofs.lemmas.Bool.{eqb-false}
use Rattle.std.specs.Option.{option_or}
use Rattle.std.proofs.lemmas.List.Folds.{find-append}
use Rattle.std.proofs.lemmas.Slice.Eq.{bytes_eq-Decides}
use mathlib.Core.Path.{fun_ext}
use Rattle.td_cdr.specs.Marks.{In, Marks, RememberedMark, entry_of, kept_beside, add_mark, remembered, without_first}
use Rattle.td_cdr.proofs.Marking.{is_held}
use Rattle.td_fed.proofs.Members.{get-set_other, get-set_same}
use Rattle.td_fed_laws.specs.Fresh.{Remembers}
use Rattle.td_fed_laws.specs.WalkLaws.{UnmarkedGroupsAreFresh}
use Rattle.td_fed_laws.proofs.Alone.{SearchBegun}
use Rattle.td_fed_laws.proofs.Noting.{noted}
use Rattle.td_ops.specs.declared.call.Query.{Query}
use Rattle.td_register.specs.Stores.{Store}
use Rattle.td_store.specs.declared.local.Local.{Local}
use Rattle.td_trader.specs.Beginning.{after_begin, query_identifier, repeated_in, searched_under}
use Rattle.td_trader.specs.Queries.{parts_of}
use Rattle.td_trader.specs.Worlds.{View, after_begin as seen_after, store_seen}
use Rattle.td_trader.specs.declared.begin.Begin.TheVariants as begin

-- ---- one more mark

abbrev is_of : List ℕ → RememberedMark → Bool
is_of id e = bytes_eq e.identifier id

abbrev number_of : RememberedMark → ℕ
number_of e = e.number

unmapped : (o : Option RememberedMark) → option_map number_of o ≡ None → o ≡ None
unmapped None e = refl
unmapped (Some r) e = absurd (let bad : ⊥ = cc in bad)

passed : (b : Bool) (r : RememberedMark) (o : Option RememberedMark) → cond b (Some r) o ≡ None → o ≡ None
passed true r o e = absurd (let bad : ⊥ = cc in bad)
passed false r o e = e

find-rest : (id : List ℕ) (es : List RememberedMark) → find (is_of id) es ≡ None → find (is_of id) (without_first es) ≡ None
find-rest id [] e = refl
find-rest id (r ∷ es) e = passed (is_of id r) r (find (is_of id) es) e

find-beside : (id : List ℕ) (b : Bool) (es : List RememberedMark) → find (is_of id) es ≡ None
    → find (is_of id) (cond b es (without_first es)) ≡ None
find-beside id true es e = e
find-beside id false es e = find-rest id es e

-- what wasn't remembered is, under the new mark's number
newest-remembered : (m : Marks) (id : List ℕ) (counter : ℕ) → remembered m id ≡ None
    → remembered (add_mark m id counter) id ≡ Some (m.count + 1)
newest-remembered m id counter none =
    let r = entry_of id (m.count + 1) in
    let beside : find (is_of id) (kept_beside m) ≡ None =
    find-beside id (nat_lt m.count m.ring) m.kept (unmapped (find (is_of id) m.kept) none) in
    ap (option_map number_of)
    (find-append (is_of id) (kept_beside m) (r ∷ [])
    ∙ (ap (λ (o : Option RememberedMark). option_or o (find (is_of id) (r ∷ []))) beside
    ∙ ap (λ (b : Bool). cond b (Some r) None) ((bytes_eq-Decides id id).1 refl)))

pub marks-searched : (s : Store) (m : Marks) (q : Query) (l : Local)
    → after_begin s m q (begin.Search l)
    ≡ add_mark m (searched_under s m q).identifier (searched_under s m q).counter
unfolding after_begin
marks-searched s m q l = refl

-- ---- in a group

abbrev pub content_in : (id : List ℕ) → Option View → Option ℕ
content_in id None = None
content_in id (Some v) = remembered v.marks id

-- the number under which the trader remembers the identifier
abbrev pub content : (id : List ℕ) → List View → (trader : ℕ) → Option ℕ
content id w k = content_in id (slice_get w k)

pub content-at : (id : List ℕ) (w : List View) (k : ℕ) (v : View) → slice_get w k ≡ Some v
    → content id w k ≡ remembered v.marks id
content-at id w k v is = ap (content_in id) is

content-set : (id : List ℕ) (w : List View) (k : ℕ) (v x : View) → slice_get w k ≡ Some x → (j : ℕ)
    → content id (slice_set w k v) j ≡ cond (nat_eq k j) (remembered v.marks id) (content id w j)
content-set id w k v x is j = by-trader (nat_eq k j) refl
  where
    by-trader : (b : Bool) → nat_eq k j ≡ b
        → content id (slice_set w k v) j ≡ cond b (remembered v.marks id) (content id w j)
    by-trader true same =
        ap (content_in id)
        (subst (λ (n : ℕ). slice_get (slice_set w k v) n ≡ Some v) (eqb-true k j same) (get-set_same w k x v is))
    by-trader false apart = ap (content_in id) (get-set_other w k j v (eqb-false k j apart))

-- where nobody of the group remembers it
pub content-none : (id : List ℕ) (w : List View) (k : ℕ) → ((number : ℕ) → Remembers w k id number → ⊥)
    → content id w k ≡ None
content-none id w k fresh = by-view (slice_get w k) refl
  where
    by-number : (v : View) → slice_get w k ≡ Some v → (o : Option ℕ) → remembered v.marks id ≡ o → o ≡ None
    by-number v is None e = refl
    by-number v is (Some n) e = absurd (fresh n (record { view = v; is = is; held = is_held v.marks id n e }))

    by-view : (o : Option View) → slice_get w k ≡ o → content_in id o ≡ None
    by-view None is = refl
    by-view (Some v) is = by-number v is (remembered v.marks id) refl

-- a search begins: its trader remembers the identifier under the search's mark, the others as before
pub content-searched : (id : List ℕ) (w : List View) (k : ℕ) (q : Query) (l : Local) (u : List View)
    → (h : SearchBegun w k q l u) → (searched_under (store_seen h.view) h.view.marks q).identifier ≡ id
    → content id w k ≡ None → content id u ≡ noted (content id w) k l.mark
content-searched id w k q l u h named none = fun_ext each
  where
    marks : Marks
    marks = after_begin (store_seen h.view) h.view.marks q (begin.Search l)

    new : remembered h.view.marks id ≡ None
    new = sym (content-at id w k h.view h.is) ∙ none

    newest : remembered marks id ≡ Some l.mark
    newest =
        let c = (searched_under (store_seen h.view) h.view.marks q).counter in
        ap (λ (m : Marks). remembered m id)
        (marks-searched (store_seen h.view) h.view.marks q l ∙ ap (λ (i : List ℕ). add_mark h.view.marks i c) named)
        ∙ (newest-remembered h.view.marks id c new ∙ ap (λ (n : ℕ). Some n) (sym h.here.served.mark_is))

    each : (j : ℕ) → content id u j ≡ noted (content id w) k l.mark j
    each j =
        ap (λ (x : List View). content id x j) h.world
        ∙ (content-set id w k (seen_after h.view marks) h.view h.is j
        ∙ ap (λ (o : Option ℕ). cond (nat_eq k j) o (content id w j)) newest)

-- a query that states an identifier is searched under it, where it isn't remembered
pub searched-as-stated : (s : Store) (m : Marks) (q : Query) (id : List ℕ) → (parts_of q).stated.request_id ≡ Some id
    → (searched_under s m q).identifier ≡ id
searched-as-stated s m q id e =
    ap (λ (o : Option (List ℕ)). (query_identifier m s.attributes.request_id_stem o).identifier) e

pub remembered-as-stated : (m : Marks) (q : Query) (id : List ℕ) → (parts_of q).stated.request_id ≡ Some id
    → repeated_in m (parts_of q).stated ≡ remembered m id
remembered-as-stated m q id e = ap (option_and_then (remembered m)) e

pub unmarked-fresh : UnmarkedGroupsAreFresh
unmarked-fresh w q t none id under k number r =
    subst (λ (es : List RememberedMark). In (entry_of id number) es) (none k r.view r.is) r.held
