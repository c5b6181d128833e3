-- Lines of offers: `offer` and `proxy`, and the lines of their properties.
use Rattle.std.specs.Prelude.{ℕ, Bool, true, false, not, is_some, List, [], ◌∷◌, ◌++◌, codes, if◌then◌else◌, Option}
use Rattle.std.specs.Prelude.{Some, None, Result, Ok, Err}
use Rattle.std.specs.Str.{bytes_eq}
use Rattle.td_cdr.specs.Reading.{◌>>=◌}
use Rattle.td_cdr.specs.Text.{has_nul}
use Rattle.td_typecode.specs.declared.reference.Ior.{Ior}
use Rattle.td_value.specs.declared.structures.Property.{Property}
use Rattle.td_lines.specs.Causes.{or_cause, refused_if}
use Rattle.td_lines.specs.Drafts.{has_trader, offer_line}
use Rattle.td_lines.specs.Properties.{parse_dynamic, parse_property}
use Rattle.td_lines.specs.References.{parse_reference}
use Rattle.td_lines.specs.Words.{three_and_text, three_words, two_and_text, two_words}
use Rattle.td_lines.specs.declared.cause.LineCause.{LineCause}
use Rattle.td_lines.specs.declared.cause.LineCause.TheVariants as cause
use Rattle.td_lines.specs.declared.draft.ScriptDraft.{ScriptDraft}
use Rattle.td_lines.specs.declared.draft.Open.{Open}
use Rattle.td_lines.specs.declared.draft.Open.TheVariants as opened
use Rattle.td_lines.specs.declared.draft.OpenOffer.{OpenOffer}
use Rattle.td_lines.specs.declared.draft.ProxyWords.{ProxyWords}

abbrev pub new_offer : ℕ → List ℕ → Ior → Option ProxyWords → OpenOffer
new_offer n service_type reference proxy = record {
  line = n;
  service_type = service_type;
  reference = reference;
  proxy = proxy;
  properties = [];
}

abbrev pub with_new_offer : ScriptDraft → OpenOffer → ScriptDraft
with_new_offer d o = record d { above = opened.Offer o }

-- `offer TYPE REF`; its properties may follow
unfoldable pub with_offer : ScriptDraft → ℕ → List ℕ → Result ScriptDraft LineCause
with_offer d n line = do
  said ← or_cause cause.Words (two_words line)
  refused_if (not (has_trader d)) cause.Place
      (parse_reference said.1 >>= λ reference.
      Ok (with_new_offer d (new_offer n said.0 reference None)))

abbrev pub how_named : List ℕ → Option Bool
how_named word =
    if bytes_eq word (codes "all")
    then Some true else (if bytes_eq word (codes "match") then Some false else None)

-- HOW RECIPE
abbrev pub parse_proxy : (how recipe : List ℕ) → Result ProxyWords LineCause
parse_proxy how recipe =
    or_cause cause.Name (how_named how) >>= λ all.
    refused_if (has_nul recipe) cause.Name (Ok (record { if_match_all = all; recipe = recipe }))

-- `proxy TYPE REF HOW RECIPE`; its properties may follow
unfoldable pub with_proxy : ScriptDraft → ℕ → List ℕ → Result ScriptDraft LineCause
with_proxy d n line = do
  said ← or_cause cause.Words (three_and_text line)
  refused_if (not (has_trader d)) cause.Place
      (parse_reference said.1 >>= λ reference.
      parse_proxy said.2 said.3 >>= λ proxy.
      Ok (with_new_offer d (new_offer n said.0 reference (Some proxy))))

-- ---- the lines of their properties

-- one property more of the offer above
abbrev pub with_added_property : ScriptDraft → Open → Property → Result ScriptDraft LineCause
with_added_property d (opened.Offer o) p = Ok (record d {
  above = opened.Offer (record o { properties = o.properties ++ p ∷ [] });
})
with_added_property d (opened.Type t) p = Err cause.Place
with_added_property d opened.Nothing p = Err cause.Place

-- `with VALUETYPE NAME VALUE`, behind its offer or another property of it
unfoldable pub with_value : ScriptDraft → List ℕ → Result ScriptDraft LineCause
with_value d line = do
  said ← or_cause cause.Words (two_and_text line)
  refused_if (not (is_some (offer_line d.above))) cause.Place
      (parse_property said.0 said.1 said.2 >>= λ p. with_added_property d d.above p)

-- `dynamic VALUETYPE NAME REF`, behind its offer or another property of it
unfoldable pub with_dynamic : ScriptDraft → List ℕ → Result ScriptDraft LineCause
with_dynamic d line = do
  said ← or_cause cause.Words (three_words line)
  refused_if (not (is_some (offer_line d.above))) cause.Place
      (parse_dynamic said.0 said.1 said.2 >>= λ p. with_added_property d d.above p)
