pub mod Printed
pub mod DoneChecks
pub mod Digests
pub mod CertificateTexts
pub mod Certificates
pub mod ExactChecks
