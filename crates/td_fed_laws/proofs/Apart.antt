-- How far apart the marks of one walk are, and what follows where it is remembered and fresh.
use Rattle.std.proofs.Common.{◌≡◌, ℕ, ◌+◌, ◌<◌, inl, List, [], ◌∷◌, ◌++◌, Some}
use Rattle.std.proofs.Common.{refl, sym, ap, subst, ◌∙◌, arith}
use Rattle.td_cdr.specs.Marks.{RemembersAs, In, Later, Marks}
use Rattle.td_fed.proofs.Members.{Insides}
use Rattle.td_fed.specs.Visiting.{BeginsVisit}
use Rattle.td_fed_laws.specs.Arrivals.{Arrival, arrivals, identifier_of, sent}
use Rattle.td_fed_laws.specs.Fresh.{Remembers}
use Rattle.td_fed_laws.specs.SharedLaws.{FreshWalksNameSearches, FreshWalksRepeatExactly, VisitsOwnIdentifiers}
use Rattle.td_fed_laws.specs.SharedLaws.{IsFreshUnder}
use Rattle.td_fed_laws.specs.SharedLaws.{HaveRoom, IsRemembered, RememberedWalksSearchOnce, WalksAloneAreRemembered}
use Rattle.td_fed_laws.specs.SharedLaws.{WalksAreNamed, WalksAreUnderOne}
use Rattle.td_fed_laws.specs.Traces.{HasSearch, visited_by}
use Rattle.td_fed_laws.specs.WalkLaws.{NamesSearches, RepeatsExactly, SearchesOnce, WalksSearchFarApart}
use Rattle.td_fed_laws.specs.WalkLaws.{ring_at, ring_in}
use Rattle.td_fed_laws.proofs.Arriving.{in-right, visit-noted, walk-sent}
use Rattle.td_fed_laws.proofs.Carried.{request, says}
use Rattle.td_fed_laws.proofs.Marking.{IsSearched as SearchTold, Knows, HasContent, walk-marked}
use Rattle.td_fed_laws.proofs.Naming.{AllContent, all-content}
use Rattle.td_fed_laws.proofs.Noting.{repeats-exactly-by}
use Rattle.td_ops.specs.declared.call.Query.{Query}
use Rattle.td_targets.specs.Targets.{inside_group}
use Rattle.td_register.specs.declared.history.Accepted.{Accepted}
use Rattle.td_trader.specs.Queries.{parts_of}
use Rattle.td_trader.specs.Solos.{no_changes, same_marks, unchanged_later}
use Rattle.td_trader.specs.Worlds.{View}
use Rattle.td_walk.specs.declared.trace.TraceItem.{TraceItem}
use Rattle.td_walk.specs.declared.trace.TraceItem.TheVariants as item
use Rattle.td_walk.specs.declared.trace.Visit.{Visit}
use Rattle.td_query_walk.specs.Walks.{WalkState, Walk}

-- no trader remembers the identifier at first, and no other marks it
record IsQuiet (w : List View) (xs : List Arrival) (id : List ℕ) : Type 0 where
  forgotten : (trader number : ℕ) → Remembers w trader id number → ⊥
  unmarked : (a : Arrival) → In a xs → (number : ℕ) → RemembersAs a.seen.marks id number → RemembersAs a.last.marks id number

rejoined : (before middle rest : List TraceItem) (i j : TraceItem)
    → before ++ i ∷ middle ++ j ∷ rest ≡ (before ++ i ∷ middle) ++ j ∷ rest
rejoined [] middle rest i j = refl
rejoined (x ∷ before) middle rest i j = ap (λ (y : List TraceItem). x ∷ y) (rejoined before middle rest i j)

module _ (others : List Accepted → Type 0) (later : Marks → Marks → Type 0)
    (grows : (a b : Marks) → later a b → Later a b) (inside : Insides) {s : WalkState (List View)} {k : ℕ} {q : Query}
    {t : List TraceItem} {v : Visit} {u : WalkState (List View)} (walk : Walk (BeginsVisit others later) inside s k q t v u)
    (Still : Type 0) (stays : Still → (a b : Marks) → later a b → b.count ≡ a.count) (room : Still → HaveRoom s.world)
  where
    abbrev Quiet : List ℕ → Type 0
    Quiet id = IsQuiet s.world (arrivals [] walk) id

    at-first : (id : List ℕ) → Knows id (ring_at s.world) (Quiet id) Still [] s.world
    at-first id j x is = record {
      ring_is = sym (ap ring_in is);
      old = λ mark h. elim h.there [ ];
      own = λ quiet n held. absurd (quiet.forgotten j n (record { view = x; is = is; held = held }));
      room = λ still. room still j x is;
      last = λ still mark h. elim h.there [ ];
    }

    content : AllContent others later grows inside (ring_at s.world) Quiet Still stays (arrivals [] walk)
    content =
        all-content others later grows inside (ring_at s.world) Quiet Still stays walk at-first
        (λ id a i quiet. quiet.unmarked a i)

    content-as : (id : List ℕ) → (parts_of q).stated.request_id ≡ Some id → (a : Arrival) → In a (arrivals [] walk)
        → HasContent id (ring_at s.world) (Quiet id) Still a
    content-as id e =
        (walk-marked others later grows inside id (ring_at s.world) (Quiet id) Still stays [] walk
        (says request q (Some id) e)
        (λ a i quiet. quiet.unmarked a i) (at-first id)).content

    -- a search, far from each one before
    record SearchAt (before : List TraceItem) (n mark : ℕ) : Type 0 where
      arrival : Arrival
      is_in : In arrival (arrivals [] walk)
      before_is : arrival.before ≡ before
      visits : visited_by arrival.item ≡ Some n
      is : SearchTold content.identifier (ring_at s.world) (Quiet content.identifier) Still arrival n mark

    search-at : (before rest : List TraceItem) (n point mark : ℕ) → t ≡ before ++ item.Search n point mark ∷ rest
        → SearchAt before n mark
    search-at before rest n point mark split =
        let noted = visit-noted walk before rest (item.Search n point mark) n split refl in
        record {
          arrival = noted.arrival;
          is_in = noted.is_in;
          before_is = noted.before_is;
          visits = ap visited_by noted.item_is;
          is = (content.content noted.arrival noted.is_in).searched n point mark noted.item_is;
        }

    apart : (before middle rest : List TraceItem) (n point mark p m : ℕ)
        → t ≡ before ++ item.Search n point mark ∷ middle ++ item.Search n p m ∷ rest → mark + ring_at s.world n < m
    apart before middle rest n point mark p m split =
        let front = before ++ item.Search n point mark ∷ middle in
        let joined = split ∙ rejoined before middle rest (item.Search n point mark) (item.Search n p m) in
        let a = search-at front rest n p m joined in
        let there : HasSearch front n mark =
        record {
          point = point;
          there =
              in-right (item.Search n point mark) before (item.Search n point mark ∷ middle) (inl refl);
        } in
        let far =
        a.is.far mark (subst (λ (x : List TraceItem). HasSearch x n mark) (sym a.before_is) there) in
        let ring = a.is.ring_is in omega (arith, far, ring)

    once : IsRemembered (arrivals [] walk) → SearchesOnce t
    once remembered before rest n point mark split searched =
        let a = search-at before rest n point mark split in
        let there : HasSearch a.arrival.before n searched.mark =
        subst (λ (x : List TraceItem). HasSearch x n searched.mark) (sym a.before_is) searched.search in
        let far = a.is.far searched.mark there in
        let mark = a.is.mark_is in
        let near =
        remembered a.arrival n searched.mark (record { is_in = a.is_in; visits = a.visits }) there in
        absurd (omega (arith, far, mark, near))

    -- no query goes outside
    quiet-of : sent u.calls ≡ sent s.calls → (a : Arrival) (n : ℕ) → In a (arrivals [] walk)
        → (e : identifier_of a ≡ content.identifier)
        → IsFreshUnder s.world (sent s.calls) (arrivals [] walk) (identifier_of a) → Quiet content.identifier
    quiet-of inside_all a n i e fresh =
        subst Quiet e (record {
          forgotten = fresh.forgotten;
          unmarked =
              λ x j number. fresh.unmarked x number j
              (let w = (walk-sent [] walk).within x j in
              let least = w.0 in
              let most = w.1 in omega (arith, least, most, inside_all));
        })

    names : VisitsOwnIdentifiers s (arrivals [] walk) → sent u.calls ≡ sent s.calls → NamesSearches t
    names fresh inside_all before rest n point mark split =
        let noted = visit-noted walk before rest (item.Repeat n point mark) n split refl in
        let a = noted.arrival in
        let visits : visited_by a.item ≡ Some n = ap visited_by noted.item_is in
        let tells = content.content a noted.is_in in
        let quiet =
        quiet-of inside_all a n noted.is_in (tells.under n visits)
        (fresh a n (record { is_in = noted.is_in; visits = visits })) in
        subst (λ (x : List TraceItem). HasSearch x n mark) noted.before_is
        (tells.named quiet n point mark noted.item_is)

    exactly : VisitsOwnIdentifiers s (arrivals [] walk) → sent u.calls ≡ sent s.calls → IsRemembered (arrivals [] walk)
        → RepeatsExactly t
    exactly fresh inside_all remembered = repeats-exactly-by t (once remembered) (names fresh inside_all)

    -- where nobody marks meanwhile
    lasting : Still → IsRemembered (arrivals [] walk)
    lasting still a n mark visits s = (content.content a visits.is_in).lasts still n mark visits.visits s

-- ---- the laws

module _ (others : List Accepted → Type 0) (later : Marks → Marks → Type 0)
    (grows : (a b : Marks) → later a b → Later a b) where
  pub far-apart : WalksSearchFarApart others later
  far-apart home s u k q t v walk =
      apart others later grows (inside_group home) walk ⊥ (λ e. absurd e) (λ e. absurd e)

  pub search-once : RememberedWalksSearchOnce others later
  search-once home s u k q t v walk =
      once others later grows (inside_group home) walk ⊥ (λ e. absurd e) (λ e. absurd e)

  pub name-searches : FreshWalksNameSearches others later
  name-searches home s u k q t v walk =
      names others later grows (inside_group home) walk ⊥ (λ e. absurd e) (λ e. absurd e)

  pub repeat-exactly : FreshWalksRepeatExactly others later
  repeat-exactly home s u k q t v walk =
      exactly others later grows (inside_group home) walk ⊥ (λ e. absurd e) (λ e. absurd e)

  pub are-named : WalksAreNamed others later
  are-named home s u k q t v id walk e a n visits =
      (content-as others later grows (inside_group home) walk ⊥ (λ x. absurd x) (λ x. absurd x) id e a visits.is_in).under
      n
      visits.visits

  pub are-under-one : WalksAreUnderOne others later
  are-under-one home s u k q t v walk a b i j va vb =
      let all = content others later grows (inside_group home) walk ⊥ (λ e. absurd e) (λ e. absurd e) in
      (all.content a va.is_in).under i va.visits ∙ sym ((all.content b vb.is_in).under j vb.visits)

pub remembered-alone : WalksAloneAreRemembered
remembered-alone home s u k q t v walk room =
    lasting no_changes same_marks unchanged_later (inside_group home) walk (HaveRoom s.world)
    (λ r a b e. ap (λ (m : Marks). m.count) e) (λ r. r) room
