-- The plain data of the station and of the crates below, by short names. Assumes nothing.
pub use Rattle.std.specs.declared.option.Option.{Option}
pub use Rattle.std.specs.declared.option.Option.TheVariants.{Some, None}
pub use Rattle.std.specs.declared.result.Result.{Result}
pub use Rattle.std.specs.declared.result.Result.TheVariants.{Ok, Err}
pub use Rattle.memory.specs.declared.fault.MemoryFault.{MemoryFault}
pub use Rattle.access.specs.declared.Side.{Side}
pub use Rattle.access.specs.declared.Side.TheVariants.{Master, Local}
pub use Rattle.access.specs.declared.Direction.{Direction}
pub use Rattle.access.specs.declared.Direction.TheVariants.{Read, Write}
pub use Rattle.bits.specs.declared.share.Share.{Share}
pub use Rattle.bits.specs.declared.share.Share.TheVariants.{Whole, Part}
pub use Rattle.mapping.specs.declared.entity.Entity.{Entity}
pub use Rattle.channel.specs.declared.setting.Setting.{Setting}
pub use Rattle.channel.specs.declared.setting.Window.{Window}
pub use Rattle.channel.specs.declared.setting.Denial.{Denial}
pub use Rattle.channel.specs.declared.setting.Denial.TheVariants.{Control, Length, Overlap}
pub use Rattle.channel.specs.declared.facts.Facts.{Facts}
pub use Rattle.channel.specs.declared.facts.Refusal.{Refusal}
pub use Rattle.channel.specs.declared.service.Service.{Service}
pub use Rattle.channel.specs.declared.record.Channel.{Channel}
pub use Rattle.frame.specs.declared.command.Addresses.{Addresses}
pub use Rattle.frame.specs.declared.datagram.Place.{Place}
pub use Rattle.frame.specs.declared.datagram.Place.TheVariants.{Physical, Logical}
pub use Rattle.frame.specs.declared.datagram.Wanted.{Wanted}
pub use Rattle.frame.specs.declared.outcome.Outcome.{Outcome}
pub use Rattle.frame.specs.declared.outcome.Outcome.TheVariants.{NotWanted, Done, Refused}
pub use Rattle.frame.specs.declared.progress.Progress.{Progress}
pub use Rattle.frame.specs.declared.progress.Verdict.{Verdict}
pub use Rattle.frame.specs.declared.progress.Reason as frame-reason
pub use Rattle.rules.specs.declared.fault.Reason.{Reason}
pub use Rattle.rules.specs.declared.fault.Reason.TheVariants.{NoRegister, NotWritable, InService, NotMappable, SplitOctet, FrameRuns, NoSuchFrame}
pub use Rattle.rules.specs.declared.fault.Reason.TheVariants.{Channel as OfAccess, Frame as OfFrame, Enabling as OfEnabling}
pub use Rattle.rules.specs.declared.fault.Fault.{Fault}
pub use Rattle.rules.specs.declared.fault.Fault.TheVariants.{Memory as NoPlace, Station as Refuses}
pub use Rattle.rules.specs.declared.data.Registers.{Registers}
pub use Rattle.rules.specs.declared.data.Register.{Register}
pub use Rattle.rules.specs.declared.data.Register.TheVariants.{Unlisted, Fixed, Address, Alias, OfEntity, OfChannel}
pub use Rattle.rules.specs.declared.data.Running.{Running}
pub use Rattle.rules.specs.declared.data.Core.{Core}
pub use Rattle.rules.specs.declared.data.Access.{Access}
pub use Rattle.rules.specs.declared.data.Target.{Target}
pub use Rattle.rules.specs.declared.data.Target.TheVariants.{Register as InRegister, Free as InFree, Window as InWindow}
pub use Rattle.rules.specs.declared.data.Call.{Call}
pub use Rattle.rules.specs.declared.data.Call.TheVariants.{Begin, Octet, End, Read as ReadAt, Write as WriteAt}
pub use Rattle.rules.specs.declared.data.Answer.{Answer}
pub use Rattle.rules.specs.declared.data.Answer.TheVariants.{Running as Runs, Forwards, Kept, Dropped, Got, Stored, Refused as Refuse}
