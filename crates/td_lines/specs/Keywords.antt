-- The first words of lines.
use Rattle.std.specs.Prelude.{ℕ, List, [], ◌∷◌, codes, Option, Some}
use Rattle.td_cdr.specs.Format.{value_named}
use Rattle.td_ior.specs.Keys.{◌>>=◌}
use Rattle.td_lines.specs.Words.{cut_word}
use Rattle.td_lines.specs.declared.keyword.EntryHead.{EntryHead}
use Rattle.td_lines.specs.declared.keyword.EntryHead.TheVariants as head
use Rattle.td_lines.specs.declared.keyword.DetailKeyword.{DetailKeyword}
use Rattle.td_lines.specs.declared.keyword.DetailKeyword.TheVariants as part
use Rattle.td_lines.specs.declared.keyword.Keyword.{Keyword}
use Rattle.td_lines.specs.declared.keyword.Keyword.TheVariants.{Begins, Belongs}

abbrev pub head_name : EntryHead → List ℕ
head_name head.Address = codes "address"
head_name head.Seed = codes "seed"
head_name head.Iiop = codes "iiop"
head_name head.Trader = codes "trader"
head_name head.Stem = codes "stem"
head_name head.Set = codes "set"
head_name head.Interface = codes "interface"
head_name head.Type = codes "type"
head_name head.Offer = codes "offer"
head_name head.Proxy = codes "proxy"
head_name head.Link = codes "link"

abbrev pub part_name : DetailKeyword → List ℕ
part_name part.Prop = codes "prop"
part_name part.With = codes "with"
part_name part.Dynamic = codes "dynamic"

abbrev pub keyword_name : Keyword → List ℕ
keyword_name (Begins h) = head_name h
keyword_name (Belongs p) = part_name p

abbrev pub keywords : List Keyword
keywords =
    Begins head.Address ∷ Begins head.Seed ∷ Begins head.Iiop ∷ Begins head.Trader
    ∷ Begins head.Stem ∷ Begins head.Set
    ∷ Begins head.Interface ∷ Begins head.Type ∷ Begins head.Offer ∷ Begins head.Proxy
    ∷ Begins head.Link ∷ Belongs part.Prop ∷ Belongs part.With ∷ Belongs part.Dynamic ∷ []

-- what the first word says, and what stands right behind it
unfoldable pub begin_of : List ℕ → Option (Keyword × List ℕ)
begin_of line = do
  cut ← cut_word line
  keyword ← value_named keyword_name keywords cut.0
  Some (keyword, cut.1)
