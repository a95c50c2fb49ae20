use Rattle.std.proofs.Common.{◌≡◌, ◌++◌, Some, map, sym}
use Rattle.std.specs.Prelude.{IfSome}
use Rattle.am_types.specs.Views.{id_of}
use Rattle.am_doccols.specs.Front.{HasRoomFor}
use Rattle.am_doccols.specs.Gathered.{AreGiven, rows_given}
use Rattle.am_fields.proofs.WriteLaws.{held}
use Rattle.am_doccols.proofs.Gathering.{of_slices}
use Rattle.am_doccols.proofs.GivenRows.{gathers_none}
use Rattle.am_doccols.proofs.row_gatherer.write_out.Goals as goal

pub push_all-requires-clause-given : goal.push_all-requires-clause-given
push_all-requires-clause-given c =
    of_slices (λ gs ss. AreGiven c.args.writer.now.0 gs (map id_of ss)) c.args.rows.now.items _ c.args.succs.now.items _ c.as_slice.ensures.value c.as_slice-2.ensures.value c.requires.given

pub push_all-requires-clause-room : goal.push_all-requires-clause-room
push_all-requires-clause-room c =
    of_slices (λ gs ss. IfSome c.args.writer.now.1 (λ zs. HasRoomFor zs (rows_given gs (map id_of ss)))) c.args.rows.now.items _ c.args.succs.now.items _ c.as_slice.ensures.value c.as_slice-2.ensures.value
    (held c.args.writer.now.1 c.requires.rows (λ zs. HasRoomFor zs (rows_given c.args.rows.now.items (map id_of c.args.succs.now.items))) c.requires.are_written c.requires.room)

pub returns-clause-still : goal.returns-clause-still
returns-clause-still c =
    (gathers_none c.args.writer.now.0 _ c.args.writer.now.1 _ c.args.rows.now.items _ c.args.succs.now.items _ c.requires c.in_ok-push_all.ensures.actors
    (of_slices (λ gs ss. IfSome c.args.writer.now.1 (λ zs. c.push_all.new.self.1 ≡ Some (zs ++ rows_given gs (map id_of ss)))) _ c.args.rows.now.items _ c.args.succs.now.items (sym c.as_slice.ensures.value) (sym c.as_slice-2.ensures.value) c.in_ok-push_all.ensures.ok)
    c.clear.ensures.items c.clear-2.ensures.items).0

pub returns-clause-same : goal.returns-clause-same
returns-clause-same c =
    (gathers_none c.args.writer.now.0 _ c.args.writer.now.1 _ c.args.rows.now.items _ c.args.succs.now.items _ c.requires c.in_ok-push_all.ensures.actors
    (of_slices (λ gs ss. IfSome c.args.writer.now.1 (λ zs. c.push_all.new.self.1 ≡ Some (zs ++ rows_given gs (map id_of ss)))) _ c.args.rows.now.items _ c.args.succs.now.items (sym c.as_slice.ensures.value) (sym c.as_slice-2.ensures.value) c.in_ok-push_all.ensures.ok)
    c.clear.ensures.items c.clear-2.ensures.items).1
