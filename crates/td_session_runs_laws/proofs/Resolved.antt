-- What the names of links lead to can be written: a link's register, one that a peer gave, or an exception with them.
use Rattle.std.proofs.Common.{◌≡◌, ℕ, List, Option, Some, None, Result, Ok, Err, refl, sym, subst, arith, find}
use Rattle.td_cdr.specs.Marks.{Marks}
use Rattle.td_cdr.specs.Sound.{sequence, text}
use Rattle.td_typecode.specs.References.{reference}
use Rattle.td_typecode.specs.declared.reference.Ior.{Ior}
use Rattle.td_fed.specs.Resolving.{ResolvesFrom, IsAskedFor, LooksUp, Resolves, followed, given, illegal, inside, named}
use Rattle.td_fed.specs.Resolving.{outside, register_of_link, ungiven, unknown, no_memory_outcome}
use Rattle.td_fed.specs.declared.resolving.NameAnswer.{NameAnswer}
use Rattle.td_lookup.specs.Naming.{NameComes, name_entry}
use Rattle.td_lookup.specs.Scenes.{Scene}
use Rattle.td_lookup.specs.NoMemory.{gave_in}
use Rattle.td_ops.specs.Answers.{AdmitsOutcome}
use Rattle.td_ops.specs.declared.operation.Operation.TheVariants.{Register}
use Rattle.td_ops.specs.declared.operation.RegisterOperation.TheVariants as register
use Rattle.td_ops.specs.declared.outcome.Outcome.{Outcome}
use Rattle.td_register.specs.declared.history.Accepted.{Accepted}
use Rattle.td_servant.specs.declared.entry.Entry.{Entry}
use Rattle.td_store.specs.LinkLists.{is_linked}
use Rattle.td_store.specs.Stores.{AdmitsLink}
use Rattle.td_store.specs.declared.record.LinkRecord.{LinkRecord}
use Rattle.td_trader.specs.Worlds.{View, store_seen}
use Rattle.td_trader_laws.proofs.WritingWorlds.{worlds-watch}
use Rattle.td_trader_laws.specs.WritableWorlds.{IsWritableWorld, OthersAreAdmitted}
use Rattle.td_session_runs_laws.proofs.Worlds.{seen-writes, store-writes}
use Rattle.td_session_runs_laws.specs.Writable.{IsWritableDesk, IsWritableScene}
use Rattle.td_types.proofs.Sequences.{each-found}
use Rattle.td_walk.specs.Peering.{AdmitsGifts, Exchange}
use Rattle.td_walk.specs.declared.fault.PeerFault.{PeerFault}
use Rattle.td_walk.specs.declared.trace.Address.{Address}

abbrev Told : Outcome → Type 0
Told o = AdmitsOutcome (Register register.Resolve) o

-- what a register outside gave, where one was asked
abbrev AdmitsAsked : Option (Result Ior PeerFault) → Type 0
AdmitsAsked None = Unit {0}
AdmitsAsked (Some (Ok r)) = reference.format.admits r
AdmitsAsked (Some (Err f)) = Unit {0}

asked-gifts : (k point : ℕ) (asked : Option (Result Ior PeerFault))
    → AdmitsGifts (gave_in (name_entry k point asked)) → AdmitsAsked asked
asked-gifts k point None h = tt
asked-gifts k point (Some (Ok r)) h = h.0
asked-gifts k point (Some (Err f)) h = tt

-- ---- a link

register-of : (found : Option LinkRecord) (r : Ior) → ((l : LinkRecord) → found ≡ Some l → AdmitsLink l)
    → Some r ≡ register_of_link found → reference.format.admits r
register-of None r k e = absurd (let bad : ⊥ = cc in bad)
register-of (Some l) r k e =
    let same : l.register ≡ r = cc in
    let held = k l refl in
    subst reference.format.admits same held.info.1.0

-- ---- names that are followed

asked-writes : {point : ℕ} {whole rest : List (List ℕ)} {register : Ior} {calls : List Exchange} {a : NameAnswer}
    {now : List Exchange} → (sequence text).format.admits whole → AdmitsAsked a.asked
    → IsAskedFor point whole rest register calls a now → Told a.outcome
asked-writes n g (given r) = (refl, (r, refl, g))
asked-writes n g (no_memory_outcome r) = (omega arith, omega arith)
asked-writes {whole = whole} n g (ungiven f e) = (whole, refl, n)

module _ (others : List Accepted → Type 0) (later : Marks → Marks → Type 0) where
  -- the register that a trader's link has
  linked-writes : (w : List View) (k : ℕ) (name : List ℕ) (r : Ior) (u : List View) → OthersAreAdmitted others
      → IsWritableWorld w → LooksUp others later w k name (Some r) u → reference.format.admits r
  linked-writes w k name r u admitted h looks =
      let store = store-writes looks.seen (seen-writes others later w k looks.seen admitted h looks.meanwhile) in
      let links = (store_seen looks.seen).links in
      register-of (find (is_linked name) links) r
      (λ l e. each-found AdmitsLink (is_linked name) links l store.store.links e) looks.content

  looked-writes : (w : List View) (k : ℕ) (name : List ℕ) (register : Option Ior) (u : List View)
      → OthersAreAdmitted others → IsWritableWorld w → LooksUp others later w k name register u → IsWritableWorld u
  looked-writes w k name register u admitted h looks =
      worlds-watch others later admitted w u k h
      (record { seen = looks.seen; meanwhile = looks.meanwhile; world = looks.world })

-- what stands at the end, and the traders as they are seen then
abbrev Leads : NameAnswer → List View → Type 0
Leads a v = Told a.outcome × IsWritableWorld v

follows-writes : (others : List Accepted → Type 0) (later : Marks → Marks → Type 0) (home : Address)
    (whole : List (List ℕ)) (calls : List Exchange) {w : List View} {k : ℕ} {names : List (List ℕ)} {a : NameAnswer}
    {v : List View} {now : List Exchange} → OthersAreAdmitted others → (sequence text).format.admits whole
    → IsWritableWorld w → AdmitsAsked a.asked → ResolvesFrom others later home whole calls w k names a v now → Leads a v
follows-writes others later home whole calls admitted n h g (unknown {w = w} {k = k} {name = name} {u = u} looks) =
    ((whole, refl, n), looked-writes others later w k name None u admitted h looks)
follows-writes others later home whole calls admitted n h g (named {w = w} {k = k} {name = name} {u = u} r looks) = (
  (refl, (r, refl, linked-writes others later w k name r u admitted h looks)),
  looked-writes others later w k name (Some r) u admitted h looks,
)
follows-writes others later home whole calls admitted n h g
    (inside {w = w} {k = k} {name = name} {u = u} {a = a} r m looks is more) =
    follows-writes others later home whole calls admitted n
    (looked-writes others later w k name (Some r) u admitted h looks) g more
follows-writes others later home whole calls admitted n h g
    (outside {w = w} {k = k} {name = name} {u = u} r looks is asked) =
    (asked-writes n g asked, looked-writes others later w k name (Some r) u admitted h looks)

resolves-writes : (others : List Accepted → Type 0) (later : Marks → Marks → Type 0) (home : Address) (w : List View)
    (calls : List Exchange) (k : ℕ) (names : List (List ℕ)) (a : NameAnswer) (u : List View) (now : List Exchange)
    → OthersAreAdmitted others → (sequence text).format.admits names → IsWritableWorld w → AdmitsAsked a.asked
    → Resolves others later home w calls k names a u now → Leads a u
resolves-writes others later home w calls k names a u now admitted n h g (illegal e) = ((names, refl, n), h)
resolves-writes others later home w calls k names a u now admitted n h g (followed e more) =
    follows-writes others later home names calls admitted n h g more

pub name-writes : (others : List Accepted → Type 0) (later : Marks → Marks → Type 0) (home : Address) (s : Scene)
    (k : ℕ) (names : List (List ℕ)) (o : Outcome) (e : Entry) (t : Scene) → OthersAreAdmitted others
    → IsWritableScene s → (sequence text).format.admits names → AdmitsGifts (gave_in e)
    → NameComes others later home s k names o e t
    → AdmitsOutcome (Register register.Resolve) o × IsWritableScene t
name-writes others later home s k names o e t admitted w n g r =
    let a = r.answer in
    let gifts = asked-gifts k a.point a.asked (subst (λ (x : Entry). AdmitsGifts (gave_in x)) r.noted g) in
    let led =
    resolves-writes others later home s.world s.peers.calls k names a t.world t.peers.calls admitted n w.world gifts
    r.resolves in (
      subst (AdmitsOutcome (Register register.Resolve)) (sym r.outcome) led.0,
      record { world = led.1; desk = subst IsWritableDesk (sym r.desk) w.desk },
    )
