mod Cases
