-- The ten forms and their numbers, by which calls answer which form they got.
use Rattle.std.specs.Prelude.{ℕ}
use Rattle.frame.specs.Meanings.{Meaning, create_sequence, create_sequence_response, sequence, ack_requested, sequence_acknowledgement, close_sequence, close_sequence_response, terminate_sequence, terminate_sequence_response, sequence_fault}
use Rattle.frame.specs.declared.form.Form.{Form}
use Rattle.frame.specs.declared.form.Form.TheVariants as form

abbrev pub form_number : Form → ℕ
form_number form.CreateSequence = 1
form_number form.CreateSequenceResponse = 2
form_number form.Sequence = 3
form_number form.AckRequested = 4
form_number form.SequenceAcknowledgement = 5
form_number form.CloseSequence = 6
form_number form.CloseSequenceResponse = 7
form_number form.TerminateSequence = 8
form_number form.TerminateSequenceResponse = 9
form_number form.SequenceFault = 10

abbrev pub form_of : Meaning → Form
form_of create_sequence = form.CreateSequence
form_of (create_sequence_response n) = form.CreateSequenceResponse
form_of (sequence n m bs) = form.Sequence
form_of (ack_requested n) = form.AckRequested
form_of (sequence_acknowledgement n rs final c) = form.SequenceAcknowledgement
form_of (close_sequence n last) = form.CloseSequence
form_of (close_sequence_response n rs c) = form.CloseSequenceResponse
form_of (terminate_sequence n last) = form.TerminateSequence
form_of (terminate_sequence_response n rs c) = form.TerminateSequenceResponse
form_of (sequence_fault f) = form.SequenceFault
