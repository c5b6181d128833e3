-- What the words ask for, and which words of each subcommand do.
use Rattle.std.specs.Prelude.{◌≡◌, ◌⊎◌, Bool, codes, map, List, [], ◌∷◌, Option, None, Some, option_map}
use Rattle.clap.specs.Words.{Text}
use Rattle.td_cli_args.specs.declared.wanted.QueryWords.{QueryWords}
use Rattle.td_cli_args.specs.declared.wanted.ExportWords.{ExportWords}
use Rattle.td_cli_args.specs.declared.wanted.LinkWords.{LinkWords}
use Rattle.td_cli_args.specs.declared.wanted.TypeWords.{TypeWords}
use Rattle.td_cli_args.specs.declared.wanted.Wanted.{Wanted}
use Rattle.td_cli_args.specs.declared.wanted.Wanted.TheVariants as wanted

-- `query`, and its options where they are given
pub record AskedQuery : Type 0 where
  pub reference : Text
  pub service : Text
  pub constraint : Text
  pub preference : Text
  pub names : List Text
  pub how_many : Option Text
  pub hops : Option Text
  pub follow : Option Text
  pub id : Option Text
  pub exact : Bool

pub record AskedExport : Type 0 where
  pub reference : Text
  pub service : Text
  pub object : Text
  pub properties : List Text

pub record AskedLink : Type 0 where
  pub reference : Text
  pub name : Text
  pub target : Text
  pub def_pass_on : Text
  pub limiting : Text

pub record AskedType : Type 0 where
  pub reference : Text
  pub name : Text
  pub interface : Text
  pub items : List Text

pub data CommandWords : Type 0 where
  query : AskedQuery → CommandWords
  export : AskedExport → CommandWords
  -- of withdraw and describe the reference and the id
  withdraw : Text → Text → CommandWords
  describe : Text → Text → CommandWords
  link : AskedLink → CommandWords
  links : Text → CommandWords
  types : Text → CommandWords
  addtype : AskedType → CommandWords

-- ---- what a value of the code asks for

abbrev pub asked_query : QueryWords → AskedQuery
asked_query q = record {
  reference = q.reference.now;
  service = q.service.now;
  constraint = q.constraint.now;
  preference = q.preference.now;
  names = map (λ s. s.now) q.names.items;
  how_many = option_map (λ s. s.now) q.how_many;
  hops = option_map (λ s. s.now) q.hops;
  follow = option_map (λ s. s.now) q.follow;
  id = option_map (λ s. s.now) q.id;
  exact = q.exact;
}

abbrev pub asked_export : ExportWords → AskedExport
asked_export e = record {
  reference = e.reference.now;
  service = e.service.now;
  object = e.object.now;
  properties = map (λ s. s.now) e.properties.items;
}

abbrev pub asked_link : LinkWords → AskedLink
asked_link l = record {
  reference = l.reference.now;
  name = l.name.now;
  target = l.target.now;
  def_pass_on = l.def_pass_on.now;
  limiting = l.limiting.now;
}

abbrev pub asked_type : TypeWords → AskedType
asked_type t = record {
  reference = t.reference.now;
  name = t.name.now;
  interface = t.interface.now;
  items = map (λ s. s.now) t.items.items;
}

abbrev pub asked_by : Wanted → CommandWords
asked_by (wanted.Query q) = query (asked_query q)
asked_by (wanted.Export e) = export (asked_export e)
asked_by (wanted.Withdraw reference id) = withdraw reference.now id.now
asked_by (wanted.Describe reference id) = describe reference.now id.now
asked_by (wanted.Link l) = link (asked_link l)
asked_by (wanted.Links reference) = links reference.now
asked_by (wanted.Types reference) = types reference.now
asked_by (wanted.AddType t) = addtype (asked_type t)

-- ---- which words ask for it

-- a subcommand without options: the words that stand in their places, by clap's names for them, those that may come any
-- number of times behind them, and what it asks for by these words
pub record Usage : Type 0 where
  pub name : Text
  pub places : List Text
  pub more : Option Text
  pub asks : List Text → List Text → Option CommandWords

-- ---- as many words as a subcommand has places

abbrev pub one : (Text → CommandWords) → List Text → List Text → Option CommandWords
one f (a ∷ []) more = Some (f a)
one f _ more = None

abbrev pub two : (Text → Text → CommandWords) → List Text → List Text → Option CommandWords
two f (a ∷ b ∷ []) more = Some (f a b)
two f _ more = None

abbrev pub three : (Text → Text → Text → List Text → CommandWords) → List Text → List Text
    → Option CommandWords
three f (a ∷ b ∷ c ∷ []) more = Some (f a b c more)
three f _ more = None

abbrev pub five : (Text → Text → Text → Text → Text → CommandWords) → List Text → List Text
    → Option CommandWords
five f (a ∷ b ∷ c ∷ d ∷ e ∷ []) more = Some (f a b c d e)
five f _ more = None

-- ---- each of them

abbrev pub export_usage : Usage
export_usage = record {
  name = codes "export";
  places = codes "ref" ∷ codes "type" ∷ codes "object" ∷ [];
  more = Some (codes "property");
  asks = three (λ a b c more. export (record {
    reference = a;
    service = b;
    object = c;
    properties = more;
  }));
}

abbrev pub withdraw_usage : Usage
withdraw_usage = record {
  name = codes "withdraw";
  places = codes "ref" ∷ codes "id" ∷ [];
  more = None;
  asks = two withdraw;
}

abbrev pub describe_usage : Usage
describe_usage = record {
  name = codes "describe";
  places = codes "ref" ∷ codes "id" ∷ [];
  more = None;
  asks = two describe;
}

abbrev pub link_usage : Usage
link_usage = record {
  name = codes "link";
  places = codes "ref" ∷ codes "name" ∷ codes "target" ∷ codes "def" ∷ codes "limit" ∷ [];
  more = None;
  asks = five (λ a b c d e. link (record {
    reference = a;
    name = b;
    target = c;
    def_pass_on = d;
    limiting = e;
  }));
}

abbrev pub links_usage : Usage
links_usage =
    record { name = codes "links"; places = codes "ref" ∷ []; more = None; asks = one links }

abbrev pub types_usage : Usage
types_usage =
    record { name = codes "types"; places = codes "ref" ∷ []; more = None; asks = one types }

abbrev pub addtype_usage : Usage
addtype_usage = record {
  name = codes "addtype";
  places = codes "ref" ∷ codes "name" ∷ codes "interface" ∷ [];
  more = Some (codes "item");
  asks = three (λ a b c more. addtype (record {
    reference = a;
    name = b;
    interface = c;
    items = more;
  }));
}

-- in the order in which the help names them
abbrev pub usages : List Usage
usages = export_usage ∷ withdraw_usage ∷ describe_usage ∷ link_usage ∷ links_usage ∷ types_usage
    ∷ addtype_usage ∷ []

abbrev pub IsAmongUsages : Usage → List Usage → Type 0
IsAmongUsages u [] = ⊥
IsAmongUsages u (v ∷ vs) = (u ≡ v) ⊎ IsAmongUsages u vs
