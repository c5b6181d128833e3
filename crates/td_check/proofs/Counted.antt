-- Names are as many as what they name.
use Rattle.std.proofs.Common.{◌≡◌, ℕ, List, [], ◌∷◌, length, map, filter, suc, None, Ok, Err, refl, sym, ap, ◌∙◌}
use Rattle.std.proofs.lemmas.List.{length-map}
use Rattle.td_store.specs.declared.record.LinkRecord.{LinkRecord}
use Rattle.td_types.specs.Calls.{RepositoryResult, is_listed, list_types}
use Rattle.td_types.specs.Repository.{Repository}
use Rattle.td_types.specs.declared.entry.ServiceType.{ServiceType}
use Rattle.td_types.specs.declared.reply.TypesReply.{TypesReply}
use Rattle.td_types.specs.declared.reply.TypesReply.TheVariants as reply

all_listed : (ts : List ServiceType)
    → length (map (λ (t : ServiceType). t.name) (filter (is_listed None) ts)) ≡ length ts
all_listed [] = refl
all_listed (t ∷ ts) = ap suc (all_listed ts)

abbrev names_content : TypesReply → List (List ℕ)
names_content (reply.Names names) = names
names_content other = []

abbrev names_listed : RepositoryResult → List (List ℕ)
names_listed (Ok p) = names_content p.0
names_listed (Err e) = []

pub as_many_listed : (r : Repository) (answer : TypesReply) (names : List (List ℕ)) (n : ℕ) → n ≡ length names
    → answer ≡ reply.Names names → list_types r None ≡ Ok (answer, r) → n ≡ length r.types
unfolding list_types
as_many_listed r answer names n counted is e =
    let content : map (λ (t : ServiceType). t.name) (filter (is_listed None) r.types) ≡ names_content answer =
    ap names_listed e in
    let same : map (λ (t : ServiceType). t.name) (filter (is_listed None) r.types) ≡ names = content ∙ ap names_content is in
    counted ∙ (ap (λ (x : List (List ℕ)). length x) (sym same) ∙ all_listed r.types)

pub as_many_named : (links : List LinkRecord) (names : List (List ℕ)) (n : ℕ) → n ≡ length names
    → names ≡ map (λ (l : LinkRecord). l.name) links → n ≡ length links
as_many_named links names n counted e =
    counted ∙ (ap (λ (x : List (List ℕ)). length x) e ∙ length-map links (λ (l : LinkRecord). l.name))
