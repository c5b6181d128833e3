-- How a query begins, by cases on why it may not be searched here.
use Rattle.std.proofs.Common.{◌≡◌, ℕ, ◌+◌, ◌≤◌, List, Option, Some, None, refl, sym, ap, subst, ◌∙◌, arith}
use Rattle.std.specs.Option.{option_and_then}
use Rattle.td_cdr.specs.Marks.{Marks, RemembersAs, Later, remembered, add_mark, made_identifier}
use Rattle.td_cdr.proofs.Marking.{is_held, is_not_held, follows, newest, later_itself}
use Rattle.td_marks.specs.Making.{next_value, IsNextValue}
use Rattle.td_marks.proofs.Free.{is_next}
use Rattle.td_ops.specs.declared.call.Query.{Query}
use Rattle.td_store.specs.declared.local.Local.{Local}
use Rattle.td_store.specs.declared.record.LinkRecord.{LinkRecord}
use Rattle.td_register.specs.Causes.{Cause}
use Rattle.td_trader.specs.Queries.{parts_of, path_link, refusal}
use Rattle.td_trader.specs.Serving.{local_of, path_of}
use Rattle.td_trader.specs.Beginning.{Begins, after_begin, begin_along, begin_here, begin_of, begin_unless}
use Rattle.td_trader.specs.Beginning.{query_identifier}
use Rattle.td_trader.specs.Beginning.{repeated_in, searched_under}
use Rattle.td_trader.specs.BeginLaws.{AreKept, MarksGrowLater, OnlySearchesMark, QueriesBegin}
use Rattle.td_trader.specs.BeginLaws.{PathsAreServed, RememberedIsNotMarked, SearchesAreServed, SearchesMarkOnce}
use Rattle.td_register.specs.Stores.{Store}
use Rattle.td_trader.specs.declared.begin.Begin.{Begin}
use Rattle.td_trader.specs.declared.begin.Begin.TheVariants.{Refused, Repeat, Search, Path}
use Rattle.td_changes.specs.declared.bounds.Bounds.{Bounds}

none_some : {X : Type 0} (x : X) → ◌≡◌ {A = Option X} None (Some x) → ⊥
none_some x h = cc

-- ---- the identifier

-- what is remembered under a stated identifier
pub record IsStatedAs (m : Marks) (stated : Option (List ℕ)) (number : ℕ) : Type 0 where
  pub identifier : List ℕ
  pub is : stated ≡ Some identifier
  pub held : RemembersAs m identifier number

held_as : (m : Marks) (stated : Option (List ℕ)) (number : ℕ) → option_and_then (remembered m) stated ≡ Some number
    → IsStatedAs m stated number
held_as m None number h = absurd (none_some number h)
held_as m (Some i) number h = record { identifier = i; is = refl; held = is_held m i number h }

free_value : (m : Marks) (stem : List ℕ) → AreKept m → IsNextValue m stem (next_value m stem)
free_value m stem k = is_next m stem k.orderly k.left

not_held : (m : Marks) (stem : List ℕ) (stated : Option (List ℕ)) → AreKept m
    → option_and_then (remembered m) stated ≡ None → (number : ℕ)
    → RemembersAs m (query_identifier m stem stated).identifier number → ⊥
not_held m stem None k h number =
    is_not_held m (made_identifier stem (next_value m stem)) (free_value m stem k).free number
not_held m stem (Some i) k h number = is_not_held m i h number

pub counter_rises : (m : Marks) (stem : List ℕ) (stated : Option (List ℕ)) → AreKept m
    → m.counter ≤ (query_identifier m stem stated).counter
counter_rises m stem None k = let from = (free_value m stem k).from in omega arith
counter_rises m stem (Some i) k = omega arith

-- ---- four ways

module _ (bounds : Bounds) (s : Store) (point : ℕ) (m : Marks) (q : Query) where
  here_is : AreKept m → refusal bounds m.count s q ≡ None → path_link s.links (parts_of q).stated ≡ None
      → (found : Option ℕ) → repeated_in m (parts_of q).stated ≡ found
      → Begins bounds s point m q (begin_here s point m q found)
  here_is k taken path (Some number) h =
      let found_as = held_as m (parts_of q).stated.request_id number h in
      record {
        taken = taken;
        path = path;
        identifier = found_as.identifier;
        stated = found_as.is;
        held = found_as.held;
      }
  here_is k taken path None h = record {
    taken = taken;
    path = path;
    fresh = not_held m s.attributes.request_id_stem (parts_of q).stated.request_id k h;
    served = refl;
  }

  along_is : AreKept m → refusal bounds m.count s q ≡ None → (found : Option LinkRecord)
      → path_link s.links (parts_of q).stated ≡ found → Begins bounds s point m q (begin_along s point m q found)
  along_is k taken (Some link) h = record { taken = taken; link = link; path = h; served = refl }
  along_is k taken None h = here_is k taken h (repeated_in m (parts_of q).stated) refl

  pub unless_is : AreKept m → (cause : Cause) → refusal bounds m.count s q ≡ cause
      → Begins bounds s point m q (begin_unless cause s point m q)
  unless_is k (Some f) h = record { cause = f; first = h; content = refl }
  unless_is k None h = along_is k h (path_link s.links (parts_of q).stated) refl

pub queries_begin : QueriesBegin
unfolding begin_of
queries_begin bounds s point m q k = unless_is bounds s point m q k (refusal bounds m.count s q) refl

-- ---- what is marked

pub only_searches : OnlySearchesMark
unfolding after_begin
only_searches s m q (Refused o) h = refl
only_searches s m q (Repeat number) h = refl
only_searches s m q (Path l) h = refl
only_searches s m q (Search l) h = absurd (let bad : ⊥ = cc in bad)

-- if it is searched, this is what it is served with
module _ (s : Store) (point : ℕ) (m : Marks) (q : Query) where
  abbrev IsServedSo : Begin → Type 0
  IsServedSo (Refused o) = Unit {0}
  IsServedSo (Repeat number) = Unit {0}
  IsServedSo (Search l) = l ≡ local_of s point (m.count + 1) (searched_under s m q).identifier q
  IsServedSo (Path l) = Unit {0}

  here_served : (found : Option ℕ) → IsServedSo (begin_here s point m q found)
  here_served (Some number) = tt
  here_served None = refl

  along_served : (found : Option LinkRecord) → IsServedSo (begin_along s point m q found)
  along_served (Some link) = tt
  along_served None = here_served (repeated_in m (parts_of q).stated)

  unless_served : (cause : Cause) → IsServedSo (begin_unless cause s point m q)
  unless_served (Some f) = tt
  unless_served None = along_served (path_link s.links (parts_of q).stated)

served_so : (bounds : Bounds) (s : Store) (point : ℕ) (m : Marks) (q : Query) (l : Local)
    → begin_of bounds s point m q ≡ Search l → l ≡ local_of s point (m.count + 1) (searched_under s m q).identifier q
unfolding begin_of
served_so bounds s point m q l h =
    subst (IsServedSo s point m q) h (unless_served s point m q (refusal bounds m.count s q))

identifier_of : (s : Store) (point mark : ℕ) (i : List ℕ) (q : Query) → (local_of s point mark i q).identifier ≡ Some i
unfolding local_of
identifier_of s point mark i q = refl

mark_of : (s : Store) (point mark : ℕ) (i : List ℕ) (q : Query) → (local_of s point mark i q).mark ≡ mark
unfolding local_of
mark_of s point mark i q = refl

pub marks_once : SearchesMarkOnce
unfolding after_begin
marks_once bounds s point m q l h =
    let i = (searched_under s m q).identifier in
    let c = (searched_under s m q).counter in
    let is = served_so bounds s point m q l h in
    let mark : l.mark ≡ m.count + 1 = ap (λ (z : Local). z.mark) is ∙ mark_of s point (m.count + 1) i q in
    record {
      identifier = i;
      served = ap (λ (z : Local). z.identifier) is ∙ identifier_of s point (m.count + 1) i q;
      mark = mark;
      count = sym mark;
      held = subst (RemembersAs (add_mark m i c) i) (sym mark) (newest m i c);
    }

same_some : (a b : List ℕ) → ◌≡◌ {A = Option (List ℕ)} (Some a) (Some b) → a ≡ b
same_some a b h = cc

pub not_marked : RememberedIsNotMarked
not_marked bounds s point m q l identifier number k h named held =
    let i = (searched_under s m q).identifier in
    let is = served_so bounds s point m q l h in
    let same : Some identifier ≡ Some i =
    sym named ∙ (ap (λ (z : Local). z.identifier) is ∙ identifier_of s point (m.count + 1) i q) in
    let begun : Begins bounds s point m q (Search l) =
    subst (Begins bounds s point m q) h (queries_begin bounds s point m q k) in
    let one : identifier ≡ i = same_some identifier i same in
    begun.fresh number (subst (λ (j : List ℕ). RemembersAs m j number) one held)

later_so : (bounds : Bounds) (s : Store) (point : ℕ) (m : Marks) (q : Query) → AreKept m → (b : Begin)
    → Begins bounds s point m q b → Later m (after_begin s m q b)
unfolding after_begin
later_so bounds s point m q k (Refused o) h = later_itself m
later_so bounds s point m q k (Repeat number) h = later_itself m
later_so bounds s point m q k (Path l) h = later_itself m
later_so bounds s point m q k (Search l) h =
    (follows m (searched_under s m q).identifier (searched_under s m q).counter k.orderly
    (counter_rises m s.attributes.request_id_stem (parts_of q).stated.request_id k) h.fresh).later

pub grow_later : MarksGrowLater
grow_later bounds s point m q k =
    later_so bounds s point m q k (begin_of bounds s point m q) (queries_begin bounds s point m q k)

-- ---- what a query is served with

pub are_served : SearchesAreServed
unfolding local_of
are_served s point mark identifier q = record {
  mark_is = refl;
  identified = refl;
  path = refl;
  candidates_are = refl;
  links = refl;
  served = record {
    point_is = refl;
    query = refl;
    stated = refl;
    attributes = refl;
    effective = refl;
    constraint = refl;
    preference = refl;
  };
}

pub are_passed_on : PathsAreServed
unfolding path_of
are_passed_on s point link q = record {
  mark_is = refl;
  identified = refl;
  path = refl;
  candidates_are = refl;
  links = refl;
  served = record {
    point_is = refl;
    query = refl;
    stated = refl;
    attributes = refl;
    effective = refl;
    constraint = refl;
    preference = refl;
  };
}
