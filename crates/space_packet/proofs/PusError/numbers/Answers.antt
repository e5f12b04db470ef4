-- `PusError::numbers` meets its contract: each arm is its line of the table.
use mathlib.Core.Path.{◌≡◌, sym, ap, ◌∙◌}
use Rattle.space_packet.specs.Answer.{numbers_of, in_numbers}
use Rattle.space_packet.specs.declared.PusError.{PusError}
use Rattle.space_packet.specs.declared.RefusalNumbers.{RefusalNumbers}
use Rattle.space_packet.proofs.PusError.numbers.Goals as goal

told : {r : RefusalNumbers} {e d : PusError} → r ≡ in_numbers (numbers_of d) → e ≡ d → r ≡ in_numbers (numbers_of e)
told p q = p ∙ ap (λ (z : PusError). in_numbers (numbers_of z)) (sym q)

pub returns-in-ByteConversion : goal.returns-in-ByteConversion
returns-in-ByteConversion c =
    told c.numbers.ensures c.in-ByteConversion.is

pub returns-in-VersionNotSupported : goal.returns-in-VersionNotSupported
returns-in-VersionNotSupported c =
    told c.in_numbers.ensures c.in-VersionNotSupported.is

pub returns-in-ChecksumFailure : goal.returns-in-ChecksumFailure
returns-in-ChecksumFailure c =
    told c.in_numbers-in-ChecksumFailure.ensures c.in-ChecksumFailure.is

pub returns-in-PacketTooLong : goal.returns-in-PacketTooLong
returns-in-PacketTooLong c =
    told c.in_numbers-in-PacketTooLong.ensures c.in-PacketTooLong.is

pub returns-in-FieldRange : goal.returns-in-FieldRange
returns-in-FieldRange c =
    told c.in_numbers-in-FieldRange.ensures c.in-FieldRange.is

pub returns-in-Reservation : goal.returns-in-Reservation
returns-in-Reservation c =
    told c.in_numbers-in-Reservation.ensures c.in-Reservation.is

pub returns-in-PacketVersion : goal.returns-in-PacketVersion
returns-in-PacketVersion c =
    told c.in_numbers-in-PacketVersion.ensures c.in-PacketVersion.is

pub returns-in-PacketTypeTm : goal.returns-in-PacketTypeTm
returns-in-PacketTypeTm c =
    told c.in_numbers-in-PacketTypeTm.ensures c.in-PacketTypeTm.is

pub returns-in-NoSecondaryHeader : goal.returns-in-NoSecondaryHeader
returns-in-NoSecondaryHeader c =
    told c.in_numbers-in-NoSecondaryHeader.ensures c.in-NoSecondaryHeader.is

pub returns-in-IdleApid : goal.returns-in-IdleApid
returns-in-IdleApid c =
    told c.in_numbers-in-IdleApid.ensures c.in-IdleApid.is

pub returns-in-PacketTypeTc : goal.returns-in-PacketTypeTc
returns-in-PacketTypeTc c =
    told c.in_numbers-in-PacketTypeTc.ensures c.in-PacketTypeTc.is

pub returns-in-TimeLength : goal.returns-in-TimeLength
returns-in-TimeLength c =
    told c.in_numbers-in-TimeLength.ensures c.in-TimeLength.is

pub returns-in-NotAReport : goal.returns-in-NotAReport
returns-in-NotAReport c =
    told c.in_numbers-in-NotAReport.ensures c.in-NotAReport.is

pub returns-in-RequestNotOpen : goal.returns-in-RequestNotOpen
returns-in-RequestNotOpen c =
    told c.in_numbers-in-RequestNotOpen.ensures c.in-RequestNotOpen.is

pub returns-in-RequestOpen : goal.returns-in-RequestOpen
returns-in-RequestOpen c =
    told c.in_numbers-in-RequestOpen.ensures c.in-RequestOpen.is

pub returns-in-TrackerFull : goal.returns-in-TrackerFull
returns-in-TrackerFull c =
    told c.in_numbers-in-TrackerFull.ensures c.in-TrackerFull.is

pub returns-in-SpareLength : goal.returns-in-SpareLength
returns-in-SpareLength c =
    told c.in_numbers-in-SpareLength.ensures c.in-SpareLength.is

pub returns-in-SpareNotZero : goal.returns-in-SpareNotZero
returns-in-SpareNotZero c =
    told c.in_numbers-in-SpareNotZero.ensures c.in-SpareNotZero.is

pub returns-in-ParameterList : goal.returns-in-ParameterList
returns-in-ParameterList c =
    told c.in_numbers-in-ParameterList.ensures c.in-ParameterList.is

pub returns-in-UnknownParameter : goal.returns-in-UnknownParameter
returns-in-UnknownParameter c =
    told c.in_numbers-in-UnknownParameter.ensures c.in-UnknownParameter.is

pub returns-in-OctetsLeftOver : goal.returns-in-OctetsLeftOver
returns-in-OctetsLeftOver c =
    told c.in_numbers-in-OctetsLeftOver.ensures c.in-OctetsLeftOver.is

pub returns-in-ParameterValue : goal.returns-in-ParameterValue
returns-in-ParameterValue c =
    told c.in_numbers-in-ParameterValue.ensures c.in-ParameterValue.is

pub returns-in-ProfileLength : goal.returns-in-ProfileLength
returns-in-ProfileLength c =
    told c.in_numbers-in-ProfileLength.ensures c.in-ProfileLength.is

pub returns-in-ProfileSegmented : goal.returns-in-ProfileSegmented
returns-in-ProfileSegmented c =
    told c.in_numbers-in-ProfileSegmented.ensures c.in-ProfileSegmented.is

pub returns-in-ProfileApid : goal.returns-in-ProfileApid
returns-in-ProfileApid c =
    told c.in_numbers-in-ProfileApid.ensures c.in-ProfileApid.is

pub returns-in-ProfileService : goal.returns-in-ProfileService
returns-in-ProfileService c =
    told c.in_numbers-in-ProfileService.ensures c.in-ProfileService.is

pub returns-in-ProfileAcceptance : goal.returns-in-ProfileAcceptance
returns-in-ProfileAcceptance c =
    told c.in_numbers-in-ProfileAcceptance.ensures c.in-ProfileAcceptance.is

pub returns-in-ProfileData : goal.returns-in-ProfileData
returns-in-ProfileData c =
    told c.in_numbers-in-ProfileData.ensures c.in-ProfileData.is

pub returns-in-TooManyApids : goal.returns-in-TooManyApids
returns-in-TooManyApids c =
    told c.in_numbers-in-TooManyApids.ensures c.in-TooManyApids.is

pub returns-in-SourceWidth : goal.returns-in-SourceWidth
returns-in-SourceWidth c =
    told c.in_numbers-in-SourceWidth.ensures c.in-SourceWidth.is
