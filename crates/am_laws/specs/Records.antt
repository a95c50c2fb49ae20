-- The plain data that definitions speak of, passed on from one place.
pub use Rattle.am_types.specs.declared.Hash.{Hash}
pub use Rattle.am_types.specs.declared.OpId.{OpId}
pub use Rattle.am_types.specs.declared.ObjId.{ObjId}
pub use Rattle.am_types.specs.declared.ObjId.TheVariants.{Root, Made}
pub use Rattle.am_types.specs.declared.Key.{Key}
pub use Rattle.am_types.specs.declared.Key.TheVariants.{Name, Head, Elem}
pub use Rattle.am_types.specs.declared.RawValue.{RawValue}
pub use Rattle.am_types.specs.declared.Op.{Op}
pub use Rattle.am_types.specs.declared.Change.{Change}
pub use Rattle.am_types.specs.declared.Row.{Row}
pub use Rattle.am_types.specs.declared.Meta.{Meta}
pub use Rattle.am_types.specs.declared.Table.{Table}
pub use Rattle.am_types.specs.declared.Entry.{Entry}
pub use Rattle.am_types.specs.declared.Limit.{Limit}
pub use Rattle.am_types.specs.declared.Limit.TheVariants.{Changes, Operations, Preds, Links}
pub use Rattle.am_types.specs.declared.Verdict.{Verdict}
pub use Rattle.am_types.specs.declared.Verdict.TheVariants.{Fits, SeqClash, SeqGap, StartLow, BadReference, Full}
pub use Rattle.am_types.specs.declared.Why.{Why}
pub use Rattle.am_types.specs.declared.Rejected.{Rejected}
