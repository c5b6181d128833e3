-- Entries whose changes are accepted one after the other.
use Rattle.std.proofs.Common.{◌≡◌, List, [], ◌∷◌, ◌++◌, Result, Ok, refl, sym, ap, subst, ◌∙◌}
use Rattle.td_cdr.specs.Reading.{◌>>=◌}
use Rattle.td_changes.specs.Applying.{comes_to}
use Rattle.td_file.specs.Files.{home_address}
use Rattle.td_file.specs.Openings.{behind, change_of, apply_entry, store_after}
use Rattle.td_lines.specs.declared.entry.FileEntry.{FileEntry}
use Rattle.td_lines.specs.declared.entry.Numbered.{Numbered}
use Rattle.td_lines.specs.declared.entry.Refused.{Refused}
use Rattle.td_make_laws.specs.Said.{entries_in, local_host}
use Rattle.td_ops.specs.declared.call.Change.{Change}
use Rattle.td_ops.specs.declared.outcome.Reply.{Reply}
use Rattle.td_register.specs.Causes.{ChangeResult, effect_of}
use Rattle.td_register.specs.Stores.{Store}
use Rattle.td_walk.specs.declared.trace.Address.{Address}

-- where a generated file says that the server is reached
abbrev pub local_address : Address
local_address = home_address local_host

-- the change is accepted, and the store is this one then
pub record Becomes (s : Store) (c : Change) (t : Store) : Type 0 where
  pub reply : Reply
  pub is : comes_to s c ≡ Ok (reply, t)

abbrev pub Goes : Address → Store → List FileEntry → Store → Type 0
Goes home s [] u = s ≡ u
Goes home s (e ∷ es) u = (t : Store) × Becomes s (change_of home e) t × Goes home t es u

pub goes-joined : (home : Address) (es fs : List FileEntry) (s t u : Store) → Goes home s es t → Goes home t fs u
    → Goes home s (es ++ fs) u
goes-joined home [] fs s t u g h = subst (λ (x : Store). Goes home x fs u) (sym g) h
goes-joined home (e ∷ es) fs s t u g h = (g.0, g.1, goes-joined home es fs g.0 t u g.2 h)

pub goes-one : (home : Address) (e : FileEntry) (s t : Store) → Becomes s (change_of home e) t → Goes home s (e ∷ []) t
goes-one home e s t b = (t, b, refl)

enters : (home : Address) (s t : Store) (one : Numbered) → Becomes s (change_of home one.entry) t
    → behind home s one ≡ Ok t
enters home s t one b = ap (λ (c : ChangeResult). apply_entry one.line (effect_of s c)) b.is

-- so all of them are entered
pub entries-go : (home : Address) (entries : List Numbered) (s u : Store) → Goes home s (entries_in entries) u
    → store_after home s entries ≡ Ok u
entries-go home [] s u g = ap (λ (x : Store). Ok x) g
entries-go home (one ∷ others) s u g =
    ap (λ (r : Result Store Refused). r >>= λ more. store_after home more others) (enters home s g.0 one g.1)
    ∙ entries-go home others g.0 u g.2
