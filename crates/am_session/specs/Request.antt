-- What is asked for, lent by its owner.
--     request_of lent      what that is
use Rattle.am_session.specs.declared.request.Request.{Request}
use Rattle.am_session.specs.declared.request.Request.TheVariants as request
use Rattle.am_session.specs.declared.request.RequestRef.{RequestRef}
use Rattle.am_session.specs.declared.request.RequestRef.TheVariants as lent

abbrev pub request_of : RequestRef → Request
request_of (lent.Do command) = request.Do command.now
request_of lent.LongLine = request.LongLine
request_of lent.Syntax = request.Syntax
request_of lent.BadHash = request.BadHash
