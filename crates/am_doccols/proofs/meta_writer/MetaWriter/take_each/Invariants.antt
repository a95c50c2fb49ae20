use Rattle.std.proofs.Common.{◌≡◌, ◌≤◌, ◌++◌, Some, None, take, drop}
use Rattle.std.specs.Prelude.{IfSome, IfNone}
use Rattle.am_doccols.proofs.meta_writer.MetaWriter.take_each.Given as goal

abbrev pub invariant-loop-taken : goal.invariant-loop-taken
invariant-loop-taken l = record {
  few : l._taken ≤ l.n;
  names : l.self.0 ≡ l.fn.self.0;
  behind : l.from ≡ drop l._taken l.fn.from;
  written : IfSome l.fn.self.1 (λ metas. l.self.1 ≡ Some (metas ++ take l._taken l.fn.from));
  none : IfNone l.fn.self.1 (l.self.1 ≡ None);
}
