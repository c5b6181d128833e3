-- Worked examples.
use Rattle.std.proofs.Common.{[], ◌∷◌, refl}
use Rattle.std.specs.Fmt.{digits}
use Rattle.td_cdr.specs.Reading.{cell_at, number_at, octets_at, string_at}
use Rattle.td_cdr.specs.Writing.{Draft}
use Rattle.td_ior.specs.Number.{number_below}
use Rattle.td_ior.specs.Profiles.{first_iiop}
use Rattle.td_names.specs.Examples.{a, x}
use Rattle.td_names.specs.declared.act.NameAct.TheVariants as act
use Rattle.td_naming.specs.Alone.{no_changes}
use Rattle.td_naming.specs.Examples.{bare, bound, make, made}
use Rattle.td_naming.specs.Views.{Meanwhile, answer_at}
use Rattle.td_name_session.specs.Examples.{WorkedIterator, WorkedKeys, WorkedRequests}

pub keys : WorkedKeys
unfolding digits number_below
keys = record {
  context = refl;
  iterator = refl;
  zeros = refl;
  zero = refl;
  none = refl;
  other = refl;
  id = refl;
}

pub iterator : (draft : Draft) → WorkedIterator draft
iterator draft = record {
  keeps = refl;
  keeps_none = refl;
  gives = (refl, refl);
  ends = (refl, refl);
  destroys = (refl, refl);
  unknown = (refl, refl);
}

-- others do nothing
bare-stays : Meanwhile no_changes bare bare
bare-stays = record { between = []; may = refl; legal = tt; is = refl }

made-stays : Meanwhile no_changes made made
unfolding digits cell_at number_at octets_at string_at number_below first_iiop
made-stays = record { between = []; may = refl; legal = tt; is = refl }

bound-stays : Meanwhile no_changes bound bound
unfolding digits cell_at number_at octets_at string_at number_below first_iiop
bound-stays = record { between = []; may = refl; legal = tt; is = refl }

pub requests : (draft : Draft) → WorkedRequests draft
unfolding digits cell_at number_at octets_at string_at number_below first_iiop
requests draft = record {
  makes = record {
    answer = answer_at bare 1 make;
    acts = record { seen = bare; meanwhile = bare-stays; answer = refl; after = refl };
    content = refl;
    is = refl;
    desk = refl;
  };
  resolves = record {
    answer = answer_at bound 1 (act.Resolve (a ∷ x ∷ []));
    acts = record { seen = bound; meanwhile = bound-stays; answer = refl; after = refl };
    content = refl;
    is = refl;
    desk = refl;
  };
  already = record {
    answer = answer_at made 1 make;
    acts = record { seen = made; meanwhile = made-stays; answer = refl; after = refl };
    content = refl;
    is = refl;
    desk = refl;
  };
  is_a = (refl, refl, refl);
  is_no_iterator = (refl, refl, refl);
  refuses = (refl, refl, refl);
}
