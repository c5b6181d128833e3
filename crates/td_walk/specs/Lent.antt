-- A DynamicProp that lies in a property.
use Rattle.td_value.specs.declared.structures.DynamicProp.{DynamicProp}
use Rattle.td_walk.specs.declared.dynamic.Dynamic.{Dynamic}

abbrev pub lent : Dynamic → DynamicProp
lent d = record {
  eval_if = d.evaluator.now;
  returned_type = d.returned.now;
  extra_info = d.extra.now;
}
