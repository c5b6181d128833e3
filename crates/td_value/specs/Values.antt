-- The format of an any, under its name here.
pub use Rattle.td_typecode.specs.Values.{any_value}
