-- How each name is spelt.
use Rattle.std.specs.Prelude.{ℕ, List, codes}
use Rattle.pieces.specs.declared.names.Element.{Element}
use Rattle.pieces.specs.declared.names.Element.TheVariants as element
use Rattle.pieces.specs.declared.names.FaultCode.{FaultCode}
use Rattle.pieces.specs.declared.names.FaultCode.TheVariants as fault

abbrev pub element_name : Element → List ℕ
element_name element.CreateSequence = codes "wsrm:CreateSequence"
element_name element.CreateSequenceResponse = codes "wsrm:CreateSequenceResponse"
element_name element.Identifier = codes "wsrm:Identifier"
element_name element.Sequence = codes "wsrm:Sequence"
element_name element.MessageNumber = codes "wsrm:MessageNumber"
element_name element.Letter = codes "tp:Letter"
element_name element.AckRequested = codes "wsrm:AckRequested"
element_name element.SequenceAcknowledgement = codes "wsrm:SequenceAcknowledgement"
element_name element.Nothing = codes "wsrm:None"
element_name element.Final = codes "wsrm:Final"
element_name element.Credit = codes "tp:Credit"
element_name element.CloseSequence = codes "wsrm:CloseSequence"
element_name element.LastMsgNumber = codes "wsrm:LastMsgNumber"
element_name element.CloseSequenceResponse = codes "wsrm:CloseSequenceResponse"
element_name element.TerminateSequence = codes "wsrm:TerminateSequence"
element_name element.TerminateSequenceResponse = codes "wsrm:TerminateSequenceResponse"
element_name element.SequenceFault = codes "wsrm:SequenceFault"
element_name element.FaultCode = codes "wsrm:FaultCode"
element_name element.Detail = codes "wsrm:Detail"

abbrev pub fault_name : FaultCode → List ℕ
fault_name fault.UnknownSequence = codes "wsrm:UnknownSequence"
fault_name fault.SequenceTerminated = codes "wsrm:SequenceTerminated"
fault_name fault.SequenceClosed = codes "wsrm:SequenceClosed"
fault_name fault.CreateSequenceRefused = codes "wsrm:CreateSequenceRefused"
