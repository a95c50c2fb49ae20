-- The plain data that definitions speak of, passed on from one place.
pub use Rattle.am_types.specs.declared.hash.Hash.{Hash}
pub use Rattle.am_types.specs.declared.ids.OpId.{OpId}
pub use Rattle.am_types.specs.declared.ids.ObjId.{ObjId}
pub use Rattle.am_types.specs.declared.ids.ObjId.TheVariants.{Root, Made}
pub use Rattle.am_types.specs.declared.ids.Key.{Key}
pub use Rattle.am_types.specs.declared.ids.Key.TheVariants.{Name, Head, Elem}
pub use Rattle.am_types.specs.declared.value.RawValue.{RawValue}
pub use Rattle.am_types.specs.declared.change.Op.{Op}
pub use Rattle.am_types.specs.declared.change.Change.{Change}
pub use Rattle.am_types.specs.declared.totals.Totals.{Totals}
pub use Rattle.am_types.specs.declared.document.Row.{Row}
pub use Rattle.am_types.specs.declared.document.Meta.{Meta}
pub use Rattle.am_types.specs.declared.document.Table.{Table}
pub use Rattle.am_types.specs.declared.document.Entry.{Entry}
pub use Rattle.am_types.specs.declared.verdict.Limit.{Limit}
pub use Rattle.am_types.specs.declared.verdict.Limit.TheVariants.{Changes, Operations, Preds, Links}
pub use Rattle.am_types.specs.declared.verdict.Verdict.{Verdict}
pub use Rattle.am_types.specs.declared.verdict.Verdict.TheVariants.{Fits, SeqClash, SeqGap, StartLow, BadReference, Full}
pub use Rattle.am_types.specs.declared.verdict.Why.{Why}
pub use Rattle.am_types.specs.declared.verdict.Rejected.{Rejected}
