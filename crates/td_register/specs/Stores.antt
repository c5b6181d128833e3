-- A trader's store as a plain value.
pub use Rattle.td_store.specs.declared.store.Store.{Store}
