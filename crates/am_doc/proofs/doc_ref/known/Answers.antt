use Rattle.std.proofs.Common.{◌++◌, refl}
use Rattle.am_colmeta.specs.Metadata.{body}
use Rattle.am_doc.specs.Fronts.{front_bytes}
use Rattle.am_doc.specs.Reading.{front_of}
use Rattle.am_doc.proofs.Known.{behind_known}
use Rattle.am_doc.proofs.doc_ref.known.Goals as goal

pub returns : goal.returns
returns c =
    let s = c.requires.known.1 in
    let first = c.in-Some.ensures.only s.metas (body s.rows ++ s.suffix) c.requires.known.2 s.are_metas s.metas_listed s.joined in
    let second = c.in-Some-columns_at.ensures.only s.rows s.suffix c.requires.known.3 s.are_rows s.rows_listed first.1 in
    let metas = rw c.again.ensures at c.spelled-metas.ensures in
    let rows = rw c.again-2.ensures at c.spelled-rows.ensures in
    behind_known (front_of c.args.front.now) c.args.rest.now c.requires.known.0 s c.in-Some.metas c.in-Some-columns_at.rows c.in-Some-columns_at.suffix.now first.0 second.0 second.1
    c.again-3.result c.again-4.result c.again-3.ensures c.again-4.ensures c.spelled-metas.result c.spelled-rows.result metas rows

pub invariant_of-result : goal.invariant_of-result
invariant_of-result c =
    let s = c.requires.known.1 in
    let first = c.in-Some.ensures.only s.metas (body s.rows ++ s.suffix) c.requires.known.2 s.are_metas s.metas_listed s.joined in
    let second = c.in-Some-columns_at.ensures.only s.rows s.suffix c.requires.known.3 s.are_rows s.rows_listed first.1 in
    let metas = rw c.again.ensures at c.spelled-metas.ensures in
    let rows = rw c.again-2.ensures at c.spelled-rows.ensures in
    record {
      bytes = front_bytes (front_of c.args.front.now) ++ c.args.rest.now;
      spelled = record {
        front = front_of c.args.front.now;
        rest = c.args.rest.now;
        is_front = c.requires.front;
        bytes_are = refl;
        behind = behind_known (front_of c.args.front.now) c.args.rest.now c.requires.known.0 s c.in-Some.metas c.in-Some-columns_at.rows c.in-Some-columns_at.suffix.now first.0 second.0 second.1
            c.again-3.result c.again-4.result c.again-3.ensures c.again-4.ensures c.spelled-metas.result c.spelled-rows.result metas rows;
      };
    }
